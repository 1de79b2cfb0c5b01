-- `blocks::blocks_along` meets its contract. Assumes nothing.
use Rattle.blocks.specs.Blocks.{along}
use Rattle.blocks.proofs.blocks_along.Goals as goal

pub returns : goal.returns
unfolding along
returns c = rw c.wide.ensures
