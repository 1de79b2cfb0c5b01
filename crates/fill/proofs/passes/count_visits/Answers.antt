-- `fill::passes::count_visits` meets its contract. Assumes nothing.
use mathlib.Core.Path.{refl}
use native.Mathlib.Omega.{arith}
use Rattle.fill.proofs.Visits.{counting_none, counting_read, counting_cell, counting_fits, counting_more, counting_done}
use Rattle.fill.proofs.passes.count_visits.Goals as goal

pub returns-then-n-gt2048 : goal.returns-then-n-gt2048
returns-then-n-gt2048 c = record { many = λ _. (refl, refl); few = λ l. absurd (omega (arith, c.if-n-gt2048.true)) }

pub loop-j-init : goal.loop-j-init
loop-j-init c = (c.if-n-gt2048.false, counting_none (c.requires c.if-n-gt2048.false))

pub offset_bounds-scratch-j : goal.offset_bounds-scratch-j
offset_bounds-scratch-j c = let h = counting_read c.loop-j.invariant.1 c.loop-j.invariant.1.at c.loop-j-test.true in omega arith

pub bounds-scratch-j : goal.bounds-scratch-j
bounds-scratch-j c = counting_read c.loop-j.invariant.1 c.loop-j.invariant.1.at c.loop-j-test.true

pub overflow_cast-c : goal.overflow_cast-c
overflow_cast-c c = let h = counting_cell c.loop-j.invariant.1 c.loop-j-test.true in omega arith

pub offset_bounds-offsets-c : goal.offset_bounds-offsets-c
offset_bounds-offsets-c c = let h = counting_cell c.loop-j.invariant.1 c.loop-j-test.true in let l = c.loop-j.invariant.1.len in omega arith

pub bounds-offsets-c : goal.bounds-offsets-c
bounds-offsets-c c = counting_cell c.loop-j.invariant.1 c.loop-j-test.true

pub overflow_add-offsets : goal.overflow_add-offsets
overflow_add-offsets c = record { fits = counting_fits c.loop-j.invariant.1 c.loop-j-test.true }

pub bounds-offsets-c-in-loop-j : goal.bounds-offsets-c-in-loop-j
bounds-offsets-c-in-loop-j c = counting_cell c.loop-j.invariant.1 c.loop-j-test.true

pub loop-j-preserved : goal.loop-j-preserved
loop-j-preserved c = (c.loop-j.invariant.0, counting_more c.loop-j.invariant.1 c.loop-j-test.true)

pub shape_of-offsets : goal.shape_of-offsets
shape_of-offsets c = c.loop-j.invariant.1.len

pub returns : goal.returns
returns c =
    let k = c.loop-j.invariant in
    record { many = λ l. absurd (omega (arith, k.0)); few = λ _. (refl, counting_done k.1 c.loop-j-test.false) }
