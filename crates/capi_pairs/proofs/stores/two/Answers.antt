-- `capi_pairs::stores::two` meets its contract. Assumes nothing.
use mathlib.Core.Path.{refl}
use native.Mathlib.Omega.{arith}
use lib.ListN.{length-set}
use Rattle.replies.proofs.Handing.{stored_two}
use Rattle.capi_pairs.proofs.stores.two.Goals as goal

pub bounds-out-1 : goal.bounds-out-1
bounds-out-1 c = simp length-set (omega arith)

pub returns : goal.returns
returns c = record { number = refl; words = stored_two c.args.out.now c.args.a c.args.b c.requires }
