-- `sizing::empty_grid` meets its contract. Assumes nothing.
use Rattle.std.proofs.Common.{refl}
use lib.Ieee.{of_bits, round}
use Rattle.sizing.specs.Counts.{empty_grid}
use Rattle.sizing.proofs.empty_grid.Goals as goal

pub returns : goal.returns
unfolding empty_grid of_bits round
returns c = refl
