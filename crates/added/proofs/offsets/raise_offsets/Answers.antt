-- `added::offsets::raise_offsets` meets its contract. Assumes nothing.
use mathlib.Core.Path.{◌≡◌}
use Prim.Native.Nat.{◌+◌, ◌-◌}
use native.Mathlib.Omega.{arith}
use Rattle.added.proofs.Spreads.{lifting_none, lifting_small, lifting_cell, lifting_asks, lifting_more, lifting_done}
use Rattle.added.proofs.offsets.raise_offsets.Goals as goal

pub loop-j-init : goal.loop-j-init
loop-j-init c = lifting_none c.requires

pub offset_bounds-visited-j : goal.offset_bounds-visited-j
offset_bounds-visited-j c = let l = c.loop-j.invariant.at in omega arith

pub bounds-visited-j : goal.bounds-visited-j
bounds-visited-j c = let l = c.loop-j.invariant.at in omega arith

pub overflow_cast-from : goal.overflow_cast-from
overflow_cast-from c = let l = c.loop-j.invariant.asks.few in let h = lifting_cell c.loop-j.invariant c.loop-j-test.true in omega arith

pub overflow_add-from : goal.overflow_add-from
overflow_add-from c = let l = c.loop-j.invariant.asks.few in let h = lifting_cell c.loop-j.invariant c.loop-j-test.true in omega arith

pub overflow_cast-j : goal.overflow_cast-j
overflow_cast-j c = let k = c.loop-j-test.true in let h = lifting_small c.loop-j.invariant in omega arith

pub raise-requires : goal.raise-requires
raise-requires c = let k = c.loop-j-test.true in let e : c.loop-j.j - 1 + 1 ≡ c.loop-j.j = omega arith in rw e (lifting_asks c.loop-j.invariant c.loop-j-test.true)

pub loop-j-preserved : goal.loop-j-preserved
loop-j-preserved c =
    let k = c.loop-j-test.true in
    let e : c.loop-j.j - 1 + 1 ≡ c.loop-j.j = omega arith in
    lifting_more c.loop-j.invariant c.loop-j-test.true (rw e at c.raise.ensures) c.raise.auto.offsets

pub shape_of-offsets : goal.shape_of-offsets
shape_of-offsets c = c.loop-j.invariant.len

pub returns : goal.returns
returns c = lifting_done c.loop-j.invariant c.loop-j-test.false
