-- `through::boxes::gather_flat` meets its contract. The invariant: the boxes of the entries before u stand there. Assumes nothing.
use Rattle.grid.specs.Domain.{lines}
use Rattle.through.proofs.BoxTurns.{Flattening}
use Rattle.through.proofs.boxes.gather_flat.Given as goal

abbrev pub invariant-loop-u : goal.invariant-loop-u
invariant-loop-u l = Flattening (lines l.start_x l.start_y l.end_x l.end_y) l.list l.initial.flat l.u l.flat
