-- `sizing::side_on` meets its contract. Assumes nothing.
use Rattle.sizing.specs.Size.{length_on}
use Rattle.sizing.proofs.side_on.Goals as goal

pub returns : goal.returns
unfolding length_on
returns c = c.largest_of.ensures
