-- `added::checks::is_on` meets its contract. Assumes nothing.
use Rattle.added.specs.Added.{inside_on}
use Rattle.added.proofs.checks.is_on.Goals as goal

pub returns : goal.returns
unfolding inside_on
returns c = rw c.low_edge.ensures
