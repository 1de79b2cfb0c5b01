-- `blocks_added::raising::block_of` meets its contract. Assumes nothing.
use native.Mathlib.Omega.{arith}
use Rattle.blocks.specs.Blocks.{block_of}
use Rattle.blocks.proofs.Places.{along_small}
use Rattle.blocks_added.proofs.Raises.{row_small, col_small, place_small}
use Rattle.blocks_added.proofs.raising.block_of.Goals as goal

pub overflow_mul-result : goal.overflow_mul-result
overflow_mul-result c = let a = c.args in rw (c.wide-row.ensures, c.blocks_along.ensures) (omega (arith, place_small _ _ (row_small a.cols a.cell (omega arith)) (along_small a.cols (omega arith))))

pub overflow_add-result : goal.overflow_add-result
overflow_add-result c = let a = c.args in rw (c.wide-row.ensures, c.blocks_along.ensures, c.wide.ensures) (omega (arith, place_small _ _ (row_small a.cols a.cell (omega arith)) (along_small a.cols (omega arith)), col_small a.cols a.cell (omega arith)))

pub returns : goal.returns
unfolding block_of
returns c = rw (c.wide-row.ensures, c.blocks_along.ensures, c.wide.ensures)
