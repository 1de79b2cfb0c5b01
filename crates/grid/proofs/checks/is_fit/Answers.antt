-- `grid::checks::is_fit` meets its contract. Assumes nothing.
use Rattle.grid.specs.Domain.{fit}
use Rattle.grid.proofs.checks.is_fit.Goals as goal

pub returns : goal.returns
unfolding fit
returns c = rw (c.is_point.ensures, c.are_cell_sizes.ensures, c.is_shape.ensures)
