-- `once::boxes::gather` meets its contract. The invariant: the boxes of the entries before u stand there. Assumes nothing.
use Prim.Native.Nat.{◌-◌}
use Rattle.grid.specs.Domain.{lines}
use Rattle.once.proofs.Boxed.{Gathering}
use Rattle.once.proofs.boxes.gather.Given as goal

abbrev pub invariant-loop-u : goal.invariant-loop-u
invariant-loop-u l = Gathering (lines l.start_x l.start_y l.end_x l.end_y) l.list l.initial.room l.room l.u
