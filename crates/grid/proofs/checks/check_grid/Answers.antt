-- `grid::checks::check_grid` meets its contract. Assumes nothing.
use Rattle.grid.specs.Domain.{grid_check}
use Rattle.grid.proofs.checks.check_grid.Goals as goal

pub returns : goal.returns
unfolding grid_check
returns c = rw (← c.is_fit.ensures) c.refuse_unless.ensures
