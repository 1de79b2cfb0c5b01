-- `wkb::number_of_4` meets its contract: the sum is the definition's own. Assumes nothing.
use native.Mathlib.Omega.{arith}
use Rattle.wkb.specs.Bytes.{little_number}
use Rattle.wkb.proofs.number_of_4.Goals as goal

pub returns : goal.returns
unfolding little_number
returns c = (omega arith, omega arith)
