-- `once::rows::scan_list` meets its contract. Assumes nothing.
use Prim.Native.Nat.{◌-◌}
use lib.ListN.{length}
use Rattle.grid.specs.Domain.{lines, count}
use Rattle.visit.specs.Overlap.{overlap}
use Rattle.once.specs.Inside.{RowHeld}
use Rattle.first_tests.proofs.Passing.{MarkScan}
use Rattle.once.proofs.rows.scan_list.Given as goal

abbrev pub invariant-loop-j : goal.invariant-loop-j
invariant-loop-j l =
    let ls = lines l.start_x l.start_y l.end_x l.end_y in
    RowHeld ls l.row (MarkScan (overlap ls) (count ls) l.row.first l.mark l.row.sure l.list l.marks l.starts l.listing l.counts l.initial.first l.initial.second l.hits-2 l.first l.second l.hits l.j)

abbrev pub decreases-loop-j : goal.decreases-loop-j
decreases-loop-j l = length l.list - l.j
