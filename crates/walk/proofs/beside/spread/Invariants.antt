-- `walk::beside::spread` meets its contract. Assumes nothing.
use Rattle.walk.proofs.Spread.{Spreading}
use Rattle.walk.proofs.beside.spread.Given as goal

abbrev pub invariant-loop-i : goal.invariant-loop-i
invariant-loop-i l = Spreading l.cols l.n l.initial.s l.i l.s
