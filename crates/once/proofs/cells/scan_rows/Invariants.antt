-- `once::cells::scan_rows` meets its contract. Assumes nothing.
use Prim.Native.Nat.{◌-◌}
use lib.ListN.{length}
use Rattle.grid.specs.Domain.{lines, count}
use Rattle.visit.specs.Overlap.{overlap}
use Rattle.once.specs.Inside.{LinesChecked}
use Rattle.first_tests.proofs.Passing.{MarkRows}
use Rattle.once.proofs.cells.scan_rows.Given as goal

abbrev pub invariant-loop-i : goal.invariant-loop-i
invariant-loop-i l = let ls = lines l.start_x l.start_y l.end_x l.end_y in LinesChecked ls (MarkRows (overlap ls) (count ls) l.sure l.list l.marks l.starts l.listing l.counts l.initial.first l.initial.second l.hits-2 l.first l.second l.hits l.i)

abbrev pub decreases-loop-i : goal.decreases-loop-i
decreases-loop-i l = length l.list - l.i
