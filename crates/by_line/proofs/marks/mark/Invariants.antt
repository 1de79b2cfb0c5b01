-- `by_line::marks::mark` meets its contract. Assumes nothing.
use Rattle.by_line.proofs.Shared.{Marking}
use Rattle.by_line.proofs.marks.mark.Given as goal

abbrev pub invariant-loop-i : goal.invariant-loop-i
invariant-loop-i l = Marking l.cells l.before l.low l.m l.i
