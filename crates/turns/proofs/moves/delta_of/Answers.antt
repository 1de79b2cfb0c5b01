-- `turns::moves::delta_of` meets its contract. Assumes nothing.
use lib.Ieee.{of_bits}
use Rattle.turns.specs.Turns.{delta_of}
use Rattle.turns.proofs.moves.delta_of.Goals as goal

pub returns-then-d : goal.returns-then-d
unfolding delta_of of_bits
returns-then-d c = rw c.if-d.true c.infinity.ensures

pub returns : goal.returns
unfolding delta_of of_bits
returns c = rw (c.if-d.false, c.magnitude.ensures)
