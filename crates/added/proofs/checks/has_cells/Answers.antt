-- `added::checks::has_cells` meets its contract. Assumes nothing.
use Rattle.added.proofs.checks.has_cells.Goals as goal

pub returns : goal.returns
returns c = rw c.is_fit.ensures
