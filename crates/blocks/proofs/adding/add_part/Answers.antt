-- `blocks::adding::add_part` meets its contract: the numbers before `block` are added. Assumes nothing.
use native.Mathlib.Omega.{arith}
use Rattle.blocks.proofs.Rectangles.{along_none, along_fits, along_more, along_done}
use Rattle.blocks.proofs.adding.add_part.Goals as goal

pub loop-block-init : goal.loop-block-init
loop-block-init c = along_none _ _ _ _ c.requires

pub offset_bounds-summary-block : goal.offset_bounds-summary-block
offset_bounds-summary-block c = omega (arith, c.loop-block.invariant.asks.few)

pub bounds-summary-block : goal.bounds-summary-block
bounds-summary-block c = omega (arith, c.loop-block.invariant.asks.room)

pub overflow_add-sum : goal.overflow_add-sum
overflow_add-sum c = omega (arith, c.number-sum.ensures, along_fits c.loop-block.invariant (omega arith) (omega (arith, c.shared_slice_known-in-loop-block-1.given c.loop-block.block)))

pub loop-block-preserved : goal.loop-block-preserved
loop-block-preserved c = rw c.number-sum.ensures (along_more c.loop-block.invariant (omega arith) (omega (arith, c.shared_slice_known-in-loop-block-1.given c.loop-block.block)))

pub returns : goal.returns
returns c = along_done c.loop-block.invariant (omega arith)
