-- `cover::runs::put_each` meets its contract. Assumes nothing.
use Rattle.cover.proofs.Growing.{Running}
use Rattle.cover.proofs.runs.put_each.Given as goal

abbrev pub invariant-loop-i : goal.invariant-loop-i
invariant-loop-i l = Running l.initial.scratch l.n l.first l.k l.scratch l.m l.i
