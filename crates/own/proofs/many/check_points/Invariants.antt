-- `own::many::check_points` meets its contract: no point before the one that it looks at was bad. Assumes nothing.
use Rattle.own.proofs.ManyLaws.{Sought}
use Rattle.own.proofs.many.check_points.Given as goal

abbrev pub invariant-loop-i : goal.invariant-loop-i
invariant-loop-i l = Sought l.x l.y l.i
