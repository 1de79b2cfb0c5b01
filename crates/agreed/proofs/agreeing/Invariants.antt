-- `agreed::agreeing` meets its contract. The invariant: the records that agree so far, and those that follow, make up the whole. Assumes nothing.
use mathlib.Core.Path.{◌≡◌}
use Prim.Native.Nat.{◌-◌}
use lib.ListN.{length}
use Rattle.agreed.proofs.Tallying.{Tallying}
use Rattle.agreed.proofs.agreeing.Given as goal

abbrev pub invariant-loop-at : goal.invariant-loop-at
invariant-loop-at l = Tallying l.w l.wanted l.records l.words l.at × (length l.room ≡ 32768)

abbrev pub decreases-loop-at : goal.decreases-loop-at
decreases-loop-at l = length l.w - l.at
