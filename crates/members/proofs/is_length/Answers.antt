-- `members::is_length` meets its contract. Assumes nothing.
use mathlib.Core.Path.{refl}
use Rattle.members.specs.Held.{is_length}
use Rattle.members.proofs.is_length.Goals as goal

pub returns : goal.returns
unfolding is_length
returns c = refl
