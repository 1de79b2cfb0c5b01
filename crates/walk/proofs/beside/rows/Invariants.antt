-- `walk::beside::rows` meets its contract. Assumes nothing.
use Rattle.walk.specs.Neighbours.{row_of}
use Rattle.walk.specs.Inside.{many_of}
use Rattle.walk.proofs.Added.{Adding}
use Rattle.walk.proofs.beside.rows.Given as goal

abbrev pub invariant-loop-i : goal.invariant-loop-i
invariant-loop-i l = Adding (row_of l.y l.cols l.cells) (many_of l.y) l.n l.initial.s l.i l.m l.s
