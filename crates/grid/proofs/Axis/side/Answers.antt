-- `grid::Axis::side` meets its contract. Assumes nothing.
use Rattle.grid.specs.Axes.{side_on}
use Rattle.grid.proofs.Axis.side.Goals as goal

pub returns : goal.returns
unfolding side_on
returns c = rw (← c.scaled.ensures) c.side_of.ensures
