-- `grid::checks::is_coordinate` meets its contract. Assumes nothing.
use lib.Ieee.{of_bits, round}
use Rattle.grid.specs.Domain.{coordinate}
use Rattle.grid.proofs.checks.is_coordinate.Goals as goal

pub returns : goal.returns
unfolding coordinate of_bits round
returns c = rw c.magnitude.ensures
