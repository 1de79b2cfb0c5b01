-- `added::items::spread_items` meets its contract. Assumes nothing.
use native.Mathlib.Omega.{arith}
use Rattle.added.proofs.Spreads.{spreading_none, spreading_cell, spreading_read, spreading_asks, spreading_more, spreading_done}
use Rattle.added.proofs.items.spread_items.Goals as goal

pub loop-j-init : goal.loop-j-init
loop-j-init c = spreading_none c.requires

pub offset_bounds-visited-j : goal.offset_bounds-visited-j
offset_bounds-visited-j c = let l = c.loop-j.invariant.at in omega arith

pub bounds-visited-j : goal.bounds-visited-j
bounds-visited-j c = let l = c.loop-j.invariant.at in omega arith

pub overflow_cast-from : goal.overflow_cast-from
overflow_cast-from c = let l = c.loop-j.invariant.asks.few in let h = spreading_cell c.loop-j.invariant c.loop-j-test.true in omega arith

pub overflow_add-from : goal.overflow_add-from
overflow_add-from c = let l = c.loop-j.invariant.asks.few in let h = spreading_cell c.loop-j.invariant c.loop-j-test.true in omega arith

pub offset_bounds-offsets-visited : goal.offset_bounds-offsets-visited
offset_bounds-offsets-visited c = let l = c.loop-j.invariant.asks.few in let h = spreading_cell c.loop-j.invariant c.loop-j-test.true in omega arith

pub bounds-offsets-visited : goal.bounds-offsets-visited
bounds-offsets-visited c = spreading_read c.loop-j.invariant c.loop-j-test.true

pub open_gap-requires : goal.open_gap-requires
open_gap-requires c = spreading_asks c.loop-j.invariant c.loop-j-test.true

pub loop-j-preserved : goal.loop-j-preserved
loop-j-preserved c = spreading_more c.loop-j.invariant c.loop-j-test.true c.open_gap.ensures c.open_gap.auto.items

pub shape_of-items : goal.shape_of-items
shape_of-items c = c.loop-j.invariant.len

pub returns : goal.returns
returns c = spreading_done c.loop-j.invariant c.loop-j-test.false
