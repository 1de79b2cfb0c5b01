-- `tables::rising::never_fall` meets its contract. The invariant: the offsets before `c` were looked at. Assumes nothing.
use Prim.Native.Nat.{◌-◌}
use Rattle.tables.proofs.Breaks.{OffsetsSeen}
use Rattle.tables.proofs.rising.never_fall.Given as goal

abbrev pub invariant-loop-c : goal.invariant-loop-c
invariant-loop-c l = OffsetsSeen l.cells l.offsets l.all l.c
