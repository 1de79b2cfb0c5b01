-- `tables::rising::count_breaks` meets its contract. The invariant: those before `k` were looked at, and `to` is not passed. Assumes nothing.
use Prim.Native.Nat.{◌-◌}
use Rattle.tables.specs.Inside.{BreaksMore}
use Rattle.tables.proofs.rising.count_breaks.Given as goal

abbrev pub invariant-loop-k : goal.invariant-loop-k
invariant-loop-k l = BreaksMore l.most l.items l.many l.k l.to
