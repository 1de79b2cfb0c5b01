-- `blocks::adding::add_rectangle` meets its contract: the rows below `row` are added. Assumes nothing.
use native.Mathlib.Omega.{arith}
use Rattle.blocks.specs.Blocks.{blocks}
use Rattle.blocks.specs.Query.{items_in}
use Rattle.blocks.proofs.Rectangles.{upward_none, row_there, row_begun, upward_asks, upward_more, upward_done}
use Rattle.blocks.proofs.adding.add_rectangle.Goals as goal

pub loop-row-init : goal.loop-row-init
loop-row-init c = rw (c.wide-row.ensures, c.blocks_along-width.ensures) (upward_none c.requires)

pub overflow_mul-at : goal.overflow_mul-at
overflow_mul-at c = omega (arith, row_there c.loop-row.invariant (omega (arith, c.wide-row-end.ensures)))

pub overflow_add-at : goal.overflow_add-at
overflow_add-at c = omega (arith, c.wide.ensures, row_begun c.loop-row.invariant (omega (arith, c.wide-row-end.ensures)))

pub overflow_add-at-in-loop-row : goal.overflow_add-at-in-loop-row
overflow_add-at-in-loop-row c = omega (arith, c.wide-in-loop-row.ensures, row_there c.loop-row.invariant (omega (arith, c.wide-row-end.ensures)))

pub overflow_add-at-in-loop-row-2 : goal.overflow_add-at-in-loop-row-2
overflow_add-at-in-loop-row-2 c = omega (arith, c.wide-in-loop-row.ensures, row_there c.loop-row.invariant (omega (arith, c.wide-row-end.ensures)))

pub add_part-sum-requires : goal.add_part-sum-requires
add_part-sum-requires c = rw (c.wide.ensures, c.wide-in-loop-row.ensures) (upward_asks c.loop-row.invariant (omega (arith, c.wide-row-end.ensures)))

pub loop-row-preserved : goal.loop-row-preserved
loop-row-preserved c = upward_more c.loop-row.invariant (omega (arith, c.wide-row-end.ensures)) _ (rw (c.wide.ensures, c.wide-in-loop-row.ensures) at c.add_part-sum.ensures)

pub returns : goal.returns
unfolding items_in blocks
returns c = upward_done c.loop-row.invariant _ _ c.blocks_along-width.ensures c.requires (omega (arith, c.wide-row-end.ensures))

pub returns-2 : goal.returns-2
unfolding items_in blocks
returns-2 c =
    let more = upward_more c.loop-row.invariant (omega (arith, c.wide-row-end.ensures)) _ (rw (c.wide.ensures, c.wide-in-loop-row.ensures) at c.add_part-sum.ensures) in
    upward_done more _ _ c.blocks_along-width.ensures c.requires (omega (arith, c.wide-row-end.ensures))
