-- `replies::stores::three` meets its contract. Assumes nothing.
use mathlib.Core.Path.{refl}
use native.Mathlib.Omega.{arith}
use lib.ListN.{length-set}
use Rattle.replies.proofs.Handing.{stored_three}
use Rattle.replies.proofs.stores.three.Goals as goal

pub bounds-out-1 : goal.bounds-out-1
bounds-out-1 c = simp length-set (omega arith)

pub bounds-out-2 : goal.bounds-out-2
bounds-out-2 c = simp length-set (omega arith)

pub returns : goal.returns
returns c = record { number = refl; words = stored_three c.args.out.now c.args.a c.args.b c.args.c c.requires }
