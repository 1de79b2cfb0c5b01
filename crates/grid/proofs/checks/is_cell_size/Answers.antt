-- `grid::checks::is_cell_size` meets its contract. Assumes nothing.
use mathlib.Core.Path.{refl}
use lib.Ieee.{of_bits, round}
use Rattle.grid.specs.Domain.{size_fits}
use Rattle.grid.proofs.checks.is_cell_size.Goals as goal

pub returns : goal.returns
unfolding size_fits of_bits round
returns c = refl
