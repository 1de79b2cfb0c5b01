-- `turns::moves::tolerance` meets its contract. Assumes nothing.
use lib.Ieee.{of_bits}
use Rattle.turns.proofs.Tolerance.{tolerance_is}
use Rattle.turns.proofs.moves.tolerance.Goals as goal

pub returns : goal.returns
unfolding of_bits
returns c = rw (c.greatest-2.ensures, c.magnitude-2.ensures, c.greatest.ensures, c.magnitude.ensures) (tolerance_is _ _)
