-- `replies::stores::refused` meets its contract. Assumes nothing.
use mathlib.Core.Path.{refl}
use Rattle.replies.proofs.Handing.{stored_one}
use Rattle.replies.proofs.stores.refused.Goals as goal

pub returns : goal.returns
returns c = record { number = refl; words = stored_one c.args.out.now c.args.why.value c.requires }
