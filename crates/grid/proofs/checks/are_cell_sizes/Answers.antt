-- `grid::checks::are_cell_sizes` meets its contract. Assumes nothing.
use Rattle.grid.specs.Domain.{sizes_fit}
use Rattle.grid.proofs.checks.are_cell_sizes.Goals as goal

pub returns : goal.returns
unfolding sizes_fit
returns c = rw (c.is_cell_size.ensures, c.is_cell_size-2.ensures)
