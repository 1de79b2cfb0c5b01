-- `fill::passes::place_visits` meets its contract. Assumes nothing.
use Prim.Native.Nat.{◌≤◌}
use Rattle.fill.proofs.Visits.{Placing}
use Rattle.fill.proofs.passes.place_visits.Given as goal

abbrev pub invariant-loop-j : goal.invariant-loop-j
invariant-loop-j l = (l.visits ≤ 2048) × Placing l.i l.scratch l.visits l.initial.offsets l.initial.items l.offsets l.items l.line l.j
