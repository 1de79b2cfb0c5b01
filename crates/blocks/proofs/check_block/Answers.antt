-- `blocks::check_block` meets its contract. Assumes nothing.
use Rattle.blocks.specs.Query.{block_check}
use Rattle.blocks.proofs.check_block.Goals as goal

pub returns : goal.returns
unfolding block_check
returns c = rw (← c.is_block.ensures) c.refuse_unless.ensures
