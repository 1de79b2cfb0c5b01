-- `blocks::making::add_row` meets its contract: the cells before x are added. Assumes nothing.
use Prim.Native.Nat.{◌+◌}
use native.Mathlib.Omega.{arith}
use Rattle.blocks.proofs.Telling.{across_none, part_says, next_few, block_in, cell_in, cell_few, part_rises, part_small, across_more, across_done}
use Rattle.blocks.proofs.making.add_row.Goals as goal

pub loop-x-init : goal.loop-x-init
loop-x-init c = across_none _ _ _ _ _ c.requires

pub overflow_add-next : goal.overflow_add-next
overflow_add-next c = omega (arith, next_few c.loop-x.invariant (omega arith))

pub overflow_add-more : goal.overflow_add-more
overflow_add-more c = omega (arith, cell_few c.loop-x.invariant (omega arith) (part_says _ _ _ (omega arith) c.least-to.ensures))

pub offset_bounds-offsets-at : goal.offset_bounds-offsets-at
offset_bounds-offsets-at c = omega (arith, cell_few c.loop-x.invariant (omega arith) (part_says _ _ _ (omega arith) c.least-to.ensures))

pub bounds-offsets-at : goal.bounds-offsets-at
bounds-offsets-at c = cell_in c.loop-x.invariant (omega arith) (part_says _ _ _ (omega arith) c.least-to.ensures)

pub overflow_add-more-in-loop-x : goal.overflow_add-more-in-loop-x
overflow_add-more-in-loop-x c = let p = part_says _ _ _ (omega arith) c.least-to.ensures in omega (arith, cell_few c.loop-x.invariant (omega arith) p, p.over)

pub offset_bounds-offsets-at-in-loop-x : goal.offset_bounds-offsets-at-in-loop-x
offset_bounds-offsets-at-in-loop-x c = let p = part_says _ _ _ (omega arith) c.least-to.ensures in omega (arith, cell_few c.loop-x.invariant (omega arith) p, p.over)

pub bounds-offsets-at-in-loop-x : goal.bounds-offsets-at-in-loop-x
bounds-offsets-at-in-loop-x c = let p = part_says _ _ _ (omega arith) c.least-to.ensures in omega (arith, cell_in c.loop-x.invariant (omega arith) p, p.over)

pub overflow_sub-more : goal.overflow_sub-more
overflow_sub-more c = part_rises c.loop-x.invariant (omega arith) (part_says _ _ _ (omega arith) c.least-to.ensures)

pub offset_bounds-summary-block : goal.offset_bounds-summary-block
offset_bounds-summary-block c = omega (arith, block_in c.loop-x.invariant (omega arith))

pub bounds-summary-block : goal.bounds-summary-block
bounds-summary-block c = block_in c.loop-x.invariant (omega arith)

pub overflow_add-summary : goal.overflow_add-summary
overflow_add-summary c =
    let h = c.loop-x.invariant in
    let p = part_says _ _ _ (omega arith) c.least-to.ensures in
    omega (arith, part_small h (omega arith) p, c.shared_slice_known-in-loop-x-1.given (c.args.at + c.least-to.result))

pub offset_bounds-summary-block-in-loop-x : goal.offset_bounds-summary-block-in-loop-x
offset_bounds-summary-block-in-loop-x c = omega (arith, block_in c.loop-x.invariant (omega arith))

pub bounds-summary-block-in-loop-x : goal.bounds-summary-block-in-loop-x
bounds-summary-block-in-loop-x c = block_in c.loop-x.invariant (omega arith)

pub overflow_add-block : goal.overflow_add-block
overflow_add-block c = omega (arith, block_in c.loop-x.invariant (omega arith))

pub loop-x-smaller : goal.loop-x-smaller
loop-x-smaller c = let p = part_says _ _ _ (omega arith) c.least-to.ensures in omega (arith, p.over)

pub loop-x-preserved : goal.loop-x-preserved
loop-x-preserved c = across_more c.loop-x.invariant (omega arith) (part_says _ _ _ (omega arith) c.least-to.ensures)

pub shape_of-summary : goal.shape_of-summary
shape_of-summary c = c.loop-x.invariant.len

pub returns : goal.returns
returns c = across_done c.loop-x.invariant (omega arith)
