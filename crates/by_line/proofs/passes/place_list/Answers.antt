-- `by_line::passes::place_list` meets its contract. Assumes nothing.
use native.Mathlib.Nat.{lt_trans}
use mathlib.Core.Path.{refl}
use native.Mathlib.Omega.{arith}
use Rattle.fill.proofs.Visits.{placing_none, placing_cell, placing_item, placing_fits, placing_more, placing_done}
use Rattle.by_line.proofs.passes.place_list.Goals as goal

pub overflow_cast-number : goal.overflow_cast-number
overflow_cast-number c = record { fits = lt_trans c.requires.line.in_lines c.requires.line.lines_small }

pub loop-line-init : goal.loop-line-init
loop-line-init c = placing_none refl c.requires

pub offset_bounds-starts-i : goal.offset_bounds-starts-i
offset_bounds-starts-i c = let h = placing_cell c.loop-line.invariant c.loop-line-test.true in let l = c.loop-line.invariant.len in omega arith

pub bounds-starts-i : goal.bounds-starts-i
bounds-starts-i c = placing_cell c.loop-line.invariant c.loop-line-test.true

pub overflow_cast-listing : goal.overflow_cast-listing
overflow_cast-listing c = let h = placing_item c.loop-line.invariant c.loop-line-test.true in omega arith

pub offset_bounds-listing-at : goal.offset_bounds-listing-at
offset_bounds-listing-at c = let h = placing_item c.loop-line.invariant c.loop-line-test.true in let l = c.loop-line.invariant.len_items in omega arith

pub bounds-listing-at : goal.bounds-listing-at
bounds-listing-at c = placing_item c.loop-line.invariant c.loop-line-test.true

pub overflow_add-starts : goal.overflow_add-starts
overflow_add-starts c = record { fits = placing_fits c.loop-line.invariant c.loop-line-test.true }

pub offset_bounds-starts-i-in-loop-line : goal.offset_bounds-starts-i-in-loop-line
offset_bounds-starts-i-in-loop-line c = let h = placing_cell c.loop-line.invariant c.loop-line-test.true in let l = c.loop-line.invariant.len in omega arith

pub bounds-starts-i-in-loop-line : goal.bounds-starts-i-in-loop-line
bounds-starts-i-in-loop-line c = placing_cell c.loop-line.invariant c.loop-line-test.true

pub loop-line-preserved : goal.loop-line-preserved
loop-line-preserved c = placing_more c.loop-line.invariant c.loop-line-test.true

pub shape_of-starts : goal.shape_of-starts
shape_of-starts c = c.loop-line.invariant.len

pub shape_of-listing : goal.shape_of-listing
shape_of-listing c = c.loop-line.invariant.len_items

pub returns : goal.returns
returns c = placing_done c.loop-line.invariant c.loop-line-test.false
