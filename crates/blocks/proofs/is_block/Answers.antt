-- `blocks::is_block` meets its contract. Assumes nothing.
use Rattle.blocks.proofs.is_block.Goals as goal

pub returns : goal.returns
returns c = rw (c.wide.ensures, c.blocks_along.ensures, c.wide-2.ensures, c.blocks_along-2.ensures)
