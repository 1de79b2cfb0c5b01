-- `by_line::sums::shift_back` meets its contract. Assumes nothing.
use Rattle.fill.proofs.Sums.{Shifting}
use Rattle.by_line.proofs.sums.shift_back.Given as goal

abbrev pub invariant-loop-i : goal.invariant-loop-i
invariant-loop-i l = Shifting l.initial.starts l.lines l.starts l.i
