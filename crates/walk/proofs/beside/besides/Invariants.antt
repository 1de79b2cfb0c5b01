-- `walk::beside::besides` meets its contract. Assumes nothing.
use Rattle.walk.specs.Neighbours.{beside_of}
use Rattle.walk.specs.Inside.{share}
use Rattle.walk.proofs.Added.{Adding}
use Rattle.walk.proofs.beside.besides.Given as goal

abbrev pub invariant-loop-i : goal.invariant-loop-i
invariant-loop-i l = Adding (beside_of l.x l.y l.cols l.cells) (share l.x l.y) l.n l.initial.s l.i l.m l.s
