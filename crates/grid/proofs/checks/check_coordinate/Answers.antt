-- `grid::checks::check_coordinate` meets its contract. Assumes nothing.
use Rattle.grid.specs.Domain.{coordinate_check}
use Rattle.grid.proofs.checks.check_coordinate.Goals as goal

pub returns : goal.returns
unfolding coordinate_check
returns c = rw (← c.is_coordinate.ensures) c.refuse_unless.ensures
