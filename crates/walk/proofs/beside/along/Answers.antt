-- `walk::beside::along` meets its contract. Assumes nothing.
use lib.Ieee.{of_bits}
use Rattle.walk.specs.Neighbours.{along_on}
use Rattle.walk.proofs.beside.along.Goals as goal

pub returns-then-end-start : goal.returns-then-end-start
unfolding along_on of_bits
returns-then-end-start c = rw c.if-end-start.true c.neighbour.ensures

pub returns : goal.returns
unfolding along_on of_bits
returns c = rw c.if-end-start.false
