-- `by_line::passes::place_list` meets its contract. Assumes nothing.
use lib.ListN.{length}
use Rattle.fill.proofs.Visits.{Placing}
use Rattle.by_line.proofs.passes.place_list.Given as goal

abbrev pub invariant-loop-line : goal.invariant-loop-line
invariant-loop-line l = Placing l.cell l.list (length l.list) l.initial.starts l.initial.listing l.starts l.listing l.number l.line-index
