-- `turns::moves::infinity` meets its contract. Assumes nothing.
use Rattle.std.proofs.Common.{refl}
use lib.Ieee.{of_bits, div}
use Rattle.turns.proofs.moves.infinity.Goals as goal

pub returns : goal.returns
unfolding div of_bits
returns c = refl
