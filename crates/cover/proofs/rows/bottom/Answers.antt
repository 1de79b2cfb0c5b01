-- `cover::rows::bottom` meets its contract. Assumes nothing.
use Rattle.cover.specs.Rule.{bottom_of}
use Rattle.cover.proofs.rows.bottom.Goals as goal

pub returns : goal.returns
unfolding bottom_of
returns c = cc
