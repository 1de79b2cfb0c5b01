-- `grid::Axis::high_edge` meets its contract. Assumes nothing.
use Rattle.grid.specs.Axes.{high_on}
use Rattle.grid.proofs.Axis.high_edge.Goals as goal

pub returns : goal.returns
unfolding high_on
returns c = rw c.low_edge.ensures
