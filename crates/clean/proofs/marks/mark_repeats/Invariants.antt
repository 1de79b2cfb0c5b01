-- `clean::marks::mark_repeats` meets its contract. The invariant: the points up to i are marked, and `last` is the place of the one kept last.
-- Assumes nothing.
use Rattle.clean.proofs.Parts.{Marking}
use Rattle.clean.proofs.marks.mark_repeats.Given as goal

abbrev pub invariant-loop-i : goal.invariant-loop-i
invariant-loop-i l = Marking l.x l.y l.from l.to l.initial.reasons l.reasons l.last l.count l.i
