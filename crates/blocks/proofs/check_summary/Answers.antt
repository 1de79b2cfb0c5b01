-- `blocks::check_summary` meets its contract. Assumes nothing.
use Rattle.blocks.specs.Blocks.{summary_check}
use Rattle.blocks.proofs.check_summary.Goals as goal

pub returns : goal.returns
unfolding summary_check
returns c = rw (← c.block_count.ensures) c.refuse_unless.ensures
