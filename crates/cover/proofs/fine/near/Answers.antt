-- `cover::fine::near` meets its contract. Assumes nothing.
use lib.Ieee.{of_bits}
use Rattle.cover.specs.Fine.{near_on}
use Rattle.cover.proofs.fine.near.Goals as goal

pub returns-then-axis-v : goal.returns-then-axis-v
unfolding near_on of_bits
returns-then-axis-v c = rw (← c.units.ensures, c.if-axis-v.true)

pub returns : goal.returns
unfolding near_on
returns c = rw c.if-axis-v.false
