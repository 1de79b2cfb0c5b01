-- `tables::rises` meets its contract. The invariant: the entries before `i` were looked at, and `all` says whether they rise. Assumes nothing.
use Prim.Native.Nat.{◌-◌}
use Rattle.tables.proofs.Climbing.{Climbed}
use Rattle.tables.proofs.rises.Given as goal

abbrev pub invariant-loop-i : goal.invariant-loop-i
invariant-loop-i l = Climbed l.list l.all l.i
