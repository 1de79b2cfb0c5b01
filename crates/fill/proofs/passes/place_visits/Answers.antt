-- `fill::passes::place_visits` meets its contract. Assumes nothing.
use native.Mathlib.Nat.{lt_trans}
use mathlib.Core.Path.{refl}
use native.Mathlib.Omega.{arith}
use Rattle.fill.proofs.Visits.{placing_none, placing_read, placing_cell, placing_item, placing_fits, placing_more, placing_done}
use Rattle.fill.proofs.passes.place_visits.Goals as goal

pub returns-then-visits-gt2048 : goal.returns-then-visits-gt2048
returns-then-visits-gt2048 c = record { many = λ _. (refl, (refl, refl)); few = λ l. absurd (omega (arith, c.if-visits-gt2048.true)) }

pub overflow_cast-line : goal.overflow_cast-line
overflow_cast-line c = let h = c.requires c.if-visits-gt2048.false in record { fits = lt_trans h.line.in_lines h.line.lines_small }

pub loop-j-init : goal.loop-j-init
loop-j-init c = (c.if-visits-gt2048.false, placing_none refl (c.requires c.if-visits-gt2048.false))

pub offset_bounds-scratch-j : goal.offset_bounds-scratch-j
offset_bounds-scratch-j c = let h = placing_read c.loop-j.invariant.1 c.loop-j-test.true in omega arith

pub bounds-scratch-j : goal.bounds-scratch-j
bounds-scratch-j c = placing_read c.loop-j.invariant.1 c.loop-j-test.true

pub overflow_cast-c : goal.overflow_cast-c
overflow_cast-c c = let h = placing_cell c.loop-j.invariant.1 c.loop-j-test.true in omega arith

pub offset_bounds-offsets-c : goal.offset_bounds-offsets-c
offset_bounds-offsets-c c = let h = placing_cell c.loop-j.invariant.1 c.loop-j-test.true in let l = c.loop-j.invariant.1.len in omega arith

pub bounds-offsets-c : goal.bounds-offsets-c
bounds-offsets-c c = placing_cell c.loop-j.invariant.1 c.loop-j-test.true

pub overflow_cast-items : goal.overflow_cast-items
overflow_cast-items c = let h = placing_item c.loop-j.invariant.1 c.loop-j-test.true in omega arith

pub offset_bounds-items-at : goal.offset_bounds-items-at
offset_bounds-items-at c = let h = placing_item c.loop-j.invariant.1 c.loop-j-test.true in let l = c.loop-j.invariant.1.len_items in omega arith

pub bounds-items-at : goal.bounds-items-at
bounds-items-at c = placing_item c.loop-j.invariant.1 c.loop-j-test.true

pub overflow_add-offsets : goal.overflow_add-offsets
overflow_add-offsets c = record { fits = placing_fits c.loop-j.invariant.1 c.loop-j-test.true }

pub offset_bounds-offsets-c-in-loop-j : goal.offset_bounds-offsets-c-in-loop-j
offset_bounds-offsets-c-in-loop-j c = let h = placing_cell c.loop-j.invariant.1 c.loop-j-test.true in let l = c.loop-j.invariant.1.len in omega arith

pub bounds-offsets-c-in-loop-j : goal.bounds-offsets-c-in-loop-j
bounds-offsets-c-in-loop-j c = placing_cell c.loop-j.invariant.1 c.loop-j-test.true

pub loop-j-preserved : goal.loop-j-preserved
loop-j-preserved c = (c.loop-j.invariant.0, placing_more c.loop-j.invariant.1 c.loop-j-test.true)

pub shape_of-offsets : goal.shape_of-offsets
shape_of-offsets c = c.loop-j.invariant.1.len

pub shape_of-items : goal.shape_of-items
shape_of-items c = c.loop-j.invariant.1.len_items

pub returns : goal.returns
returns c =
    let k = c.loop-j.invariant in
    record { many = λ l. absurd (omega (arith, k.0)); few = λ _. (refl, placing_done k.1 c.loop-j-test.false) }
