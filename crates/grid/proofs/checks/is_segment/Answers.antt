-- `grid::checks::is_segment` meets its contract. Assumes nothing.
use Rattle.grid.specs.Domain.{segment}
use Rattle.grid.proofs.checks.is_segment.Goals as goal

pub returns : goal.returns
unfolding segment
returns c = rw (c.is_point.ensures, c.is_point-2.ensures)
