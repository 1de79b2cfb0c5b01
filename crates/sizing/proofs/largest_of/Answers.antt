-- `sizing::largest_of` meets its contract. Assumes nothing.
use Rattle.sizing.proofs.Steps.{largest_made}
use Rattle.sizing.proofs.largest_of.Goals as goal

pub returns : goal.returns
returns c = largest_made _ _ c.greatest.ensures c.greatest-2.ensures
