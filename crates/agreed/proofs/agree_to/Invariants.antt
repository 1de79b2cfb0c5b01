-- `agreed::agree_to` meets its contract. The invariant: the records so far agree, and what follows goes on from there. Assumes nothing.
use mathlib.Core.Path.{◌≡◌}
use Prim.Native.Nat.{◌-◌}
use lib.ListN.{length}
use Rattle.agreed.proofs.Tallying.{Going}
use Rattle.agreed.proofs.agree_to.Given as goal

abbrev pub invariant-loop-at : goal.invariant-loop-at
invariant-loop-at l = Going l.w l.at × (length l.room ≡ 32768)

abbrev pub decreases-loop-at : goal.decreases-loop-at
decreases-loop-at l = length l.w - l.at
