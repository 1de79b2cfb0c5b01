-- `grid::axes::near_whole` meets its contract. Assumes nothing.
use lib.Ieee.{of_bits, round}
use Rattle.grid.specs.Axes.{near_whole}
use Rattle.grid.proofs.axes.near_whole.Goals as goal

pub returns : goal.returns
unfolding near_whole of_bits round
returns c = rw (c.magnitude.ensures, c.round_half_away.ensures)
