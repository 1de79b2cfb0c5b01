-- `window::marks::mark_rows` meets its contract: the rows from `row` on are still to be marked. Assumes nothing.
use Rattle.window.proofs.Marking.{MarkingRows}
use Rattle.window.proofs.marks.mark_rows.Given as goal

abbrev pub invariant-loop-row : goal.invariant-loop-row
invariant-loop-row l = MarkingRows l.cols l.offsets l.items l.first l.last l.below l.from l.initial.marks l.marks l.row
