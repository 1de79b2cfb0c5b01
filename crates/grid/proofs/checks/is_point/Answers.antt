-- `grid::checks::is_point` meets its contract. Assumes nothing.
use Rattle.grid.specs.Domain.{point}
use Rattle.grid.proofs.checks.is_point.Goals as goal

pub returns : goal.returns
unfolding point
returns c = rw (c.is_coordinate.ensures, c.is_coordinate-2.ensures)
