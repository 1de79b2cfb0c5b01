-- `added::items::open_gap` meets its contract. Assumes nothing.
use Rattle.added.proofs.Parts.{gap_opened}
use Rattle.added.proofs.items.open_gap.Goals as goal

pub returns : goal.returns
returns c = rw (← c.copy_within.ensures.after) at (gap_opened _ _ _ _ c.requires c.args.n)
