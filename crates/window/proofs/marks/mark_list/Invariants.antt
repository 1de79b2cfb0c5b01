-- `window::marks::mark_list` meets its contract: what is left of the list is still to be marked. Assumes nothing.
use Rattle.window.proofs.Marking.{MarkingList}
use Rattle.window.proofs.marks.mark_list.Given as goal

abbrev pub invariant-loop-line : goal.invariant-loop-line
invariant-loop-line l = MarkingList l.list l.initial.marks l.marks l.line-index
