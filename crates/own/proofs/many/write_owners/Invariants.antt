-- `own::many::write_owners` meets its contract: the first i answers are written, and the others are as they were. Assumes nothing.
use Rattle.own.proofs.ManyLaws.{Telling}
use Rattle.own.proofs.many.write_owners.Given as goal

abbrev pub invariant-loop-i : goal.invariant-loop-i
invariant-loop-i l = Telling l.grid l.x l.y l.initial.answers l.answers l.i
