-- `through::boxes::gather` meets its contract. The invariant: the boxes of the entries before u stand there. Assumes nothing.
use Rattle.grid.specs.Domain.{lines}
use Rattle.through.proofs.BoxTurns.{Gathering}
use Rattle.through.proofs.boxes.gather.Given as goal

abbrev pub invariant-loop-u : goal.invariant-loop-u
invariant-loop-u l = Gathering (lines l.start_x l.start_y l.end_x l.end_y) l.list l.initial.room l.u l.room
