-- `blocks::block_count` meets its contract. Assumes nothing.
use native.Mathlib.Omega.{arith}
use Rattle.blocks.specs.Blocks.{blocks}
use Rattle.blocks.proofs.Places.{along_small, product_small}
use Rattle.blocks.proofs.block_count.Goals as goal

pub overflow_mul-result : goal.overflow_mul-result
overflow_mul-result c = let g = c.args.grid in rw (c.blocks_along.ensures, c.blocks_along-2.ensures) (record { fits = product_small _ _ (along_small g.rows (omega arith)) (along_small g.cols (omega arith)) })

pub returns : goal.returns
unfolding blocks
returns c = rw (c.blocks_along.ensures, c.blocks_along-2.ensures)
