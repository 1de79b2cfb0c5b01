-- `grid::checks::check_point` meets its contract. Assumes nothing.
use Rattle.grid.specs.Domain.{point_check}
use Rattle.grid.proofs.checks.check_point.Goals as goal

pub returns : goal.returns
unfolding point_check
returns c = rw (← c.is_point.ensures) c.refuse_unless.ensures
