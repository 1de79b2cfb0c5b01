-- `capi_pairs::stores::one` meets its contract. Assumes nothing.
use mathlib.Core.Path.{refl}
use Rattle.replies.proofs.Handing.{stored_one}
use Rattle.capi_pairs.proofs.stores.one.Goals as goal

pub returns : goal.returns
returns c = record { number = refl; words = stored_one c.args.out.now c.args.a c.requires }
