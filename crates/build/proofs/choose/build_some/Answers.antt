-- `build::choose::build_some` meets its contract. Assumes nothing.
use native.Mathlib.Omega.{arith}
use mathlib.Core.Path.{◌∙◌}
use Rattle.build.proofs.Choices.{end_first, choosing_first, choosing_asks, choosing_next, choosing_done}
use Rattle.build.proofs.choose.build_some.Goals as goal

pub loop-built-init : goal.loop-built-init
loop-built-init c = choosing_first _ c.requires c.serial_bounds-extent.ensures c.first_size-size.ensures

pub attempt_size-tried-requires : goal.attempt_size-tried-requires
attempt_size-tried-requires c = choosing_asks c.loop-built.invariant

pub shape_of-offsets-in-Some : goal.shape_of-offsets-in-Some
shape_of-offsets-in-Some c = c.attempt_size-tried.auto.offsets ∙ c.loop-built.invariant.len

pub shape_of-items-in-Some : goal.shape_of-items-in-Some
shape_of-items-in-Some c = c.attempt_size-tried.auto.items ∙ c.loop-built.invariant.len_items

pub shape_of-globals-in-Some : goal.shape_of-globals-in-Some
shape_of-globals-in-Some c = c.attempt_size-tried.auto.globals ∙ c.loop-built.invariant.len_globals

pub shape_of-scratch-in-Some : goal.shape_of-scratch-in-Some
shape_of-scratch-in-Some c = c.attempt_size-tried.auto.scratch ∙ c.loop-built.invariant.len_scratch

pub returns-in-Some : goal.returns-in-Some
returns-in-Some c =
    choosing_done c.loop-built.invariant (rw c.in-Some.is at c.attempt_size-tried.ensures)
    (end_first _ _ _ _ _ _ c.requires c.serial_bounds-extent.ensures c.first_size-size.ensures)

pub overflow_sub-left : goal.overflow_sub-left
overflow_sub-left c = let h = rw c.in_default.is at c.attempt_size-tried.ensures in omega (arith, h.some)

pub loop-built-smaller : goal.loop-built-smaller
loop-built-smaller c = let h = rw c.in_default.is at c.attempt_size-tried.ensures in omega (arith, h.some)

pub loop-built-preserved : goal.loop-built-preserved
loop-built-preserved c =
    let h = rw c.in_default.is at c.attempt_size-tried.ensures in
    let k = c.attempt_size-tried in
    choosing_next c.loop-built.invariant h c.half_of-size.ensures k.auto.offsets k.auto.items k.auto.globals k.auto.scratch
