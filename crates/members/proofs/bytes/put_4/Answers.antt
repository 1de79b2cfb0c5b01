-- `members::bytes::put_4` meets its contract: four bytes, one after another. Assumes nothing.
use native.Mathlib.Omega.{arith}
use lib.ListN.{length-set}
use Rattle.members.proofs.Putting.{put_four}
use Rattle.members.proofs.bytes.put_4.Goals as goal

pub bounds-s-at-2 : goal.bounds-s-at-2
bounds-s-at-2 c = simp length-set (omega arith)

pub bounds-s-at-3 : goal.bounds-s-at-3
bounds-s-at-3 c = simp length-set (omega arith)

pub bounds-s-at-4 : goal.bounds-s-at-4
bounds-s-at-4 c = simp length-set (omega arith)

pub returns : goal.returns
returns c = put_four c.args.at c.args.v c.args.s.now c.requires
