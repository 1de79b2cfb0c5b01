-- `short_lists::scan_row` meets its contract. Assumes nothing.
use Prim.Native.Nat.{◌-◌}
use lib.ListN.{length}
use Rattle.short_lists.specs.Short.{ready}
use Rattle.short_lists.proofs.Tries.{RowTried}
use Rattle.short_lists.proofs.scan_row.Given as goal

abbrev pub invariant-loop-j : goal.invariant-loop-j
invariant-loop-j l = RowTried (ready l.list l.marks l.room l.starts l.listing l.counts) l.i l.initial.first l.initial.second l.hits-2 l.first l.second l.hits l.j

abbrev pub decreases-loop-j : goal.decreases-loop-j
decreases-loop-j l = length l.list - l.j
