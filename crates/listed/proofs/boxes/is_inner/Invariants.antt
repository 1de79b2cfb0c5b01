-- `listed::boxes::is_inner` meets its contract. The invariant: the box is within those before u, where all of them held. Assumes nothing.
use Rattle.listed.proofs.BoxLaws.{Narrowing}
use Rattle.listed.proofs.boxes.is_inner.Given as goal

abbrev pub invariant-loop-u : goal.invariant-loop-u
invariant-loop-u l = Narrowing (record { min_x = l.ax; min_y = l.ay; max_x = l.bx; max_y = l.by }) l.many l.room l.ax l.ay l.bx l.by l.all l.u
