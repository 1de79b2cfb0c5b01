-- `by_line::sums::running_sums` meets its contract. Assumes nothing.
use Rattle.fill.proofs.Sums.{Summing}
use Rattle.by_line.proofs.sums.running_sums.Given as goal

abbrev pub invariant-loop-i : goal.invariant-loop-i
invariant-loop-i l = Summing l.initial.starts l.lines l.starts l.total l.i
