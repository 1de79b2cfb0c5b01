-- `cover::rows::climb` meets its contract. Assumes nothing.
use Prim.Native.Nat.{◌≤◌}
use Rattle.cover.proofs.Climbing.{Climbing}
use Rattle.cover.proofs.rows.climb.Given as goal

abbrev pub invariant-loop-r : goal.invariant-loop-r
invariant-loop-r l = Climbing l.cols l.rows l.e l.first l.last l.s l.initial.scratch l.scratch l.r l.n × (l.r ≤ l.last)
