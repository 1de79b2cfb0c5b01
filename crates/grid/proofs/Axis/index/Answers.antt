-- `grid::Axis::index` meets its contract. Assumes nothing.
use Rattle.grid.specs.Axes.{index_on}
use Rattle.grid.proofs.Axis.index.Goals as goal

pub returns : goal.returns
unfolding index_on
returns c = rw (← c.scaled.ensures) c.clamped_floor.ensures
