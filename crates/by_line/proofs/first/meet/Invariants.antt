-- `by_line::first::meet` meets its contract. Assumes nothing.
use Prim.Native.Nat.{◌+◌}
use Rattle.by_line.proofs.Fronts.{Comparing}
use Rattle.by_line.proofs.first.meet.Given as goal

abbrev pub invariant-loop-x : goal.invariant-loop-x
invariant-loop-x l = Comparing l.xs l.ys l.i l.j l.x l.y

abbrev pub decreases-loop-x : goal.decreases-loop-x
decreases-loop-x l = l.i + l.j
