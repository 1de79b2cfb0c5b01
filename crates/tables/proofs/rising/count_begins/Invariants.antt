-- `tables::rising::count_begins` meets its contract. The invariant: the lists before that of `c` were looked at, and `to` is not passed. Assumes nothing.
use Prim.Native.Nat.{◌-◌}
use Rattle.tables.specs.Inside.{BeginsMore}
use Rattle.tables.proofs.rising.count_begins.Given as goal

abbrev pub invariant-loop-c : goal.invariant-loop-c
invariant-loop-c l = BeginsMore l.most l.cells l.offsets l.items l.many l.c l.to
