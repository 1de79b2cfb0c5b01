-- `turns::moves::first_of` meets its contract. Assumes nothing.
use lib.Ieee.{of_bits}
use Rattle.turns.specs.Turns.{first_on}
use Rattle.turns.proofs.moves.first_of.Goals as goal

pub returns-then-d : goal.returns-then-d
unfolding first_on of_bits
returns-then-d c = rw c.if-d.true c.infinity.ensures

pub returns : goal.returns
unfolding first_on of_bits
returns c = rw (c.if-d.false, c.greatest.ensures, c.next_boundary.ensures)
