-- `listed::boxes::none` meets its contract. Assumes nothing.
use mathlib.Core.Path.{refl}
use lib.Ieee.{div, of_bits}
use Rattle.listed.proofs.boxes.none.Goals as goal

pub returns : goal.returns
unfolding div of_bits
returns c = refl
