-- `grid::checks::check_count` meets its contract. Assumes nothing.
use Rattle.grid.specs.Domain.{count_check}
use Rattle.grid.proofs.checks.check_count.Goals as goal

pub returns : goal.returns
unfolding count_check
returns c = c.refuse_unless.ensures
