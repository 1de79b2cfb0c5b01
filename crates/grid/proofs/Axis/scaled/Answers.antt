-- `grid::Axis::scaled` meets its contract. Assumes nothing.
use mathlib.Core.Path.{refl}
use Rattle.grid.specs.Axes.{scaled_on}
use Rattle.grid.proofs.Axis.scaled.Goals as goal

pub returns : goal.returns
unfolding scaled_on
returns c = refl
