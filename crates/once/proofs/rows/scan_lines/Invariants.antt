-- `once::rows::scan_lines` meets its contract. Assumes nothing.
use Prim.Native.Nat.{◌-◌}
use Rattle.grid.specs.Domain.{lines, count}
use Rattle.visit.specs.Overlap.{overlap}
use Rattle.once.specs.Inside.{RowHeld}
use Rattle.first_tests.proofs.Scans.{LineScan}
use Rattle.once.proofs.rows.scan_lines.Given as goal

abbrev pub invariant-loop-b : goal.invariant-loop-b
invariant-loop-b l = let ls = lines l.start_x l.start_y l.end_x l.end_y in RowHeld ls l.row (LineScan (overlap ls) (count ls) l.row.first l.k l.stop l.starts l.listing l.counts l.initial.first l.initial.second l.hits-2 l.first l.second l.hits l.b)

abbrev pub decreases-loop-b : goal.decreases-loop-b
decreases-loop-b l = l.stop - l.b
