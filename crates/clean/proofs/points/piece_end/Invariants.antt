-- `clean::points::piece_end` meets its contract. The invariant: the points up to i obey the rule. Assumes nothing.
use Rattle.clean.proofs.Parts.{Ending}
use Rattle.clean.proofs.points.piece_end.Given as goal

abbrev pub invariant-loop-i : goal.invariant-loop-i
invariant-loop-i l = Ending l.x l.y l.from l.end l.i
