-- `walk::beside::neighbour` meets its contract. Assumes nothing.
use Rattle.walk.specs.Neighbours.{neighbour_on}
use Rattle.walk.proofs.beside.neighbour.Goals as goal

pub returns : goal.returns
unfolding neighbour_on
returns c = rw (← c.side.ensures) c.neighbour_for.ensures
