-- `clean::has_room` meets its contract. Assumes nothing.
use mathlib.Core.Path.{refl}
use Rattle.clean.proofs.has_room.Goals as goal

pub returns : goal.returns
returns c = refl
