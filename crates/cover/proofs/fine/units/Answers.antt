-- `cover::fine::units` meets its contract. Assumes nothing.
use lib.Ieee.{of_bits}
use Rattle.cover.specs.Fine.{unit_on, units_on}
use mathlib.Core.Path.{refl}
use Rattle.cover.proofs.fine.units.Goals as goal

pub returns : goal.returns
unfolding units_on unit_on of_bits
returns c = refl
