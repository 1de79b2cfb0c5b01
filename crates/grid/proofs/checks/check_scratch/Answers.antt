-- `grid::checks::check_scratch` meets its contract. Assumes nothing.
use Rattle.grid.specs.Domain.{scratch_check}
use Rattle.grid.proofs.checks.check_scratch.Goals as goal

pub returns : goal.returns
unfolding scratch_check
returns c = c.refuse_unless.ensures
