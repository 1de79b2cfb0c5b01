-- `by_line::passes::count_list` meets its contract. Assumes nothing.
use lib.ListN.{length}
use Rattle.fill.proofs.Visits.{Counting}
use Rattle.by_line.proofs.passes.count_list.Given as goal

abbrev pub invariant-loop-line : goal.invariant-loop-line
invariant-loop-line l = Counting l.list (length l.list) l.initial.counts l.counts l.line-index
