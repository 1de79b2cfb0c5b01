-- `clean::marks::mark_members` meets its contract. The invariant: the first k members, with `from` points, are marked. Assumes nothing.
use Rattle.clean.proofs.Walking.{Walked}
use Rattle.clean.proofs.marks.mark_members.Given as goal

abbrev pub invariant-loop-length : goal.invariant-loop-length
invariant-loop-length l = Walked l.x l.y l.lengths l.initial.reasons l.initial.kept_lengths l.reasons l.kept_lengths l.at l.from l.length-index
