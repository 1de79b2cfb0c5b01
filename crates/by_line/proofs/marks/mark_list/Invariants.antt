-- `by_line::marks::mark_list` meets its contract. Assumes nothing.
use Rattle.by_line.proofs.Shared.{Listing}
use Rattle.by_line.proofs.marks.mark_list.Given as goal

abbrev pub invariant-loop-j : goal.invariant-loop-j
invariant-loop-j l = Listing l.list l.before l.low l.starts l.listing l.counts l.initial.marks l.marks l.j
