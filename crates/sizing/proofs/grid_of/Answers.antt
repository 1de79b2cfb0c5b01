-- `sizing::grid_of` meets its contract. Assumes nothing.
use Rattle.sizing.proofs.Steps.{grid_made}
use Rattle.sizing.proofs.grid_of.Goals as goal

pub returns : goal.returns
returns c = grid_made _ _ c.count_on.ensures c.count_on-2.ensures
