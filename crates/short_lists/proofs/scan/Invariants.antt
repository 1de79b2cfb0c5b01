-- `short_lists::scan` meets its contract. Assumes nothing.
use Prim.Native.Nat.{◌-◌}
use Rattle.short_lists.specs.Short.{ready}
use Rattle.short_lists.proofs.Tries.{RowsTried}
use Rattle.short_lists.proofs.scan.Given as goal

abbrev pub invariant-loop-i : goal.invariant-loop-i
invariant-loop-i l = RowsTried (ready l.list l.marks l.room l.starts l.listing l.counts) l.initial.first l.initial.second l.hits-2 l.first l.second l.hits l.i
