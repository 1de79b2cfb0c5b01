-- `sizing::half_of` meets its contract. Assumes nothing.
use Rattle.std.proofs.Common.{refl}
use lib.Ieee.{of_bits, round}
use Rattle.sizing.specs.Size.{half, half_of}
use Rattle.sizing.proofs.half_of.Goals as goal

pub returns : goal.returns
unfolding half half_of of_bits round
returns c = refl
