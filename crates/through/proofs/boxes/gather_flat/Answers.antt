-- `through::boxes::gather_flat` meets its contract. The invariant: the boxes of the entries before u stand there. Assumes nothing.
use native.Mathlib.Omega.{arith}
use borrow.Author.Rules.{rules}
use lib.ListN.{length-set}
use Rattle.through.proofs.BoxTurns.{flat_start, flat_end, flat_asks, flat_room, flat_more}
use Rattle.through.proofs.boxes.gather_flat.Goals as goal

pub loop-u-init : goal.loop-u-init
loop-u-init c = flat_start _ _ _ (search rules)

pub box_at-bounds-requires : goal.box_at-bounds-requires
box_at-bounds-requires c = flat_asks _ _ _ _ _ c.loop-u.invariant c.loop-u-test.true

pub overflow_mul-at : goal.overflow_mul-at
overflow_mul-at c = omega (arith, flat_room _ _ _ _ _ c.loop-u.invariant c.loop-u-test.true)

pub offset_bounds-flat-at : goal.offset_bounds-flat-at
offset_bounds-flat-at c = omega (arith, flat_room _ _ _ _ _ c.loop-u.invariant c.loop-u-test.true)

pub bounds-flat-at : goal.bounds-flat-at
bounds-flat-at c = omega (arith, flat_room _ _ _ _ _ c.loop-u.invariant c.loop-u-test.true)

pub overflow_add-flat : goal.overflow_add-flat
overflow_add-flat c = omega (arith, flat_room _ _ _ _ _ c.loop-u.invariant c.loop-u-test.true)

pub offset_bounds-flat-at-in-loop-u : goal.offset_bounds-flat-at-in-loop-u
offset_bounds-flat-at-in-loop-u c = omega (arith, flat_room _ _ _ _ _ c.loop-u.invariant c.loop-u-test.true)

pub bounds-flat-at-in-loop-u : goal.bounds-flat-at-in-loop-u
bounds-flat-at-in-loop-u c = simp length-set (omega (arith, flat_room _ _ _ _ _ c.loop-u.invariant c.loop-u-test.true))

pub overflow_add-flat-in-loop-u : goal.overflow_add-flat-in-loop-u
overflow_add-flat-in-loop-u c = omega (arith, flat_room _ _ _ _ _ c.loop-u.invariant c.loop-u-test.true)

pub offset_bounds-flat-at-in-loop-u-2 : goal.offset_bounds-flat-at-in-loop-u-2
offset_bounds-flat-at-in-loop-u-2 c = omega (arith, flat_room _ _ _ _ _ c.loop-u.invariant c.loop-u-test.true)

pub bounds-flat-at-in-loop-u-2 : goal.bounds-flat-at-in-loop-u-2
bounds-flat-at-in-loop-u-2 c = simp length-set (omega (arith, flat_room _ _ _ _ _ c.loop-u.invariant c.loop-u-test.true))

pub overflow_add-flat-in-loop-u-2 : goal.overflow_add-flat-in-loop-u-2
overflow_add-flat-in-loop-u-2 c = omega (arith, flat_room _ _ _ _ _ c.loop-u.invariant c.loop-u-test.true)

pub offset_bounds-flat-at-in-loop-u-3 : goal.offset_bounds-flat-at-in-loop-u-3
offset_bounds-flat-at-in-loop-u-3 c = omega (arith, flat_room _ _ _ _ _ c.loop-u.invariant c.loop-u-test.true)

pub bounds-flat-at-in-loop-u-3 : goal.bounds-flat-at-in-loop-u-3
bounds-flat-at-in-loop-u-3 c = simp length-set (omega (arith, flat_room _ _ _ _ _ c.loop-u.invariant c.loop-u-test.true))

pub loop-u-preserved : goal.loop-u-preserved
loop-u-preserved c = flat_more _ _ _ _ _ c.loop-u.invariant c.loop-u-test.true _ c.box_at-bounds.ensures

pub shape_of-flat : goal.shape_of-flat
shape_of-flat c = c.loop-u.invariant.done.long

pub returns : goal.returns
returns c = flat_end _ _ _ _ _ c.loop-u.invariant c.loop-u-test.false
