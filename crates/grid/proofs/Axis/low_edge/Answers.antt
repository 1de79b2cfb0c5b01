-- `grid::Axis::low_edge` meets its contract. Assumes nothing.
use mathlib.Core.Path.{refl}
use Rattle.grid.specs.Axes.{low_on}
use Rattle.grid.proofs.Axis.low_edge.Goals as goal

pub returns : goal.returns
unfolding low_on
returns c = refl
