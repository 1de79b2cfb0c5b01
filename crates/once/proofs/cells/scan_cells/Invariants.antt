-- `once::cells::scan_cells` meets its contract. Assumes nothing.
use Prim.Native.Nat.{◌-◌}
use Rattle.grid.specs.Domain.{lines, count}
use Rattle.visit.specs.Overlap.{overlap}
use Rattle.once.specs.Inside.{LinesChecked}
use Rattle.first_tests.proofs.Lists.{Cells}
use Rattle.first_tests.proofs.Passing.{Beside}
use Rattle.once.proofs.Boxed.{WithRoom}
use Rattle.once.proofs.cells.scan_cells.Given as goal

abbrev pub invariant-loop-cell : goal.invariant-loop-cell
invariant-loop-cell l =
    let ls = lines l.start_x l.start_y l.end_x l.end_y in
    Beside 4096 l.marks (WithRoom 256 l.room (LinesChecked ls (Cells (overlap ls) (count ls) l.cells l.offsets l.items l.starts l.listing l.initial.counts l.initial.first l.initial.second l.counts l.first l.second l.hits l.cell)))
