-- `blocks_added::raising::raise` meets its contract: the first cells are added. Assumes nothing.
use native.Mathlib.Omega.{arith}
use Rattle.blocks_added.proofs.Raises.{raising_none, block_in, block_fits, raising_more, raising_done}
use Rattle.blocks_added.proofs.raising.raise.Goals as goal

pub loop-cell-init : goal.loop-cell-init
loop-cell-init c = raising_none c.requires

pub block_of-block-requires : goal.block_of-block-requires
block_of-block-requires c = c.loop-cell.invariant.asks.some

pub offset_bounds-summary-block : goal.offset_bounds-summary-block
offset_bounds-summary-block c = omega (arith, block_in c.loop-cell.invariant (omega arith) c.block_of-block.ensures)

pub bounds-summary-block : goal.bounds-summary-block
bounds-summary-block c = block_in c.loop-cell.invariant (omega arith) c.block_of-block.ensures

pub overflow_add-summary : goal.overflow_add-summary
overflow_add-summary c = omega (arith, block_fits c.loop-cell.invariant (omega arith) c.block_of-block.ensures)

pub bounds-summary-block-in-loop-cell : goal.bounds-summary-block-in-loop-cell
bounds-summary-block-in-loop-cell c = block_in c.loop-cell.invariant (omega arith) c.block_of-block.ensures

pub loop-cell-preserved : goal.loop-cell-preserved
loop-cell-preserved c = raising_more c.loop-cell.invariant (omega arith) c.block_of-block.ensures

pub shape_of-summary : goal.shape_of-summary
shape_of-summary c = c.loop-cell.invariant.len

pub returns : goal.returns
returns c = raising_done c.loop-cell.invariant (omega arith)
