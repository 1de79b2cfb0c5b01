-- `through::scan::mark` meets its contract. The invariant: the bytes before u are the answers. Assumes nothing.
use Rattle.through.proofs.ScanTurns.{Marking}
use Rattle.through.proofs.scan.mark.Given as goal

abbrev pub invariant-loop-u : goal.invariant-loop-u
invariant-loop-u l = Marking (record { min_x = l.ax; min_y = l.ay; max_x = l.bx; max_y = l.by }) l.room l.at l.many l.initial.marks l.ax l.ay l.bx l.by l.u l.marks
