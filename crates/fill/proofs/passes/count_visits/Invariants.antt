-- `fill::passes::count_visits` meets its contract. Assumes nothing.
use Prim.Native.Nat.{◌≤◌}
use Rattle.fill.proofs.Visits.{Counting}
use Rattle.fill.proofs.passes.count_visits.Given as goal

abbrev pub invariant-loop-j : goal.invariant-loop-j
invariant-loop-j l = (l.n ≤ 2048) × Counting l.scratch l.n l.initial.offsets l.offsets l.j
