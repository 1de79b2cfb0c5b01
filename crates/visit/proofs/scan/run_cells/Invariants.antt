-- `visit::scan::run_cells` meets its contract. The invariant: what a batch of the cells' tests makes is what was made and what a batch of the rest makes. Assumes nothing.
use Prim.Native.Nat.{◌-◌}
use lib.ListN.{length}
use Rattle.grid.specs.Domain.{lines}
use Rattle.seek.specs.Cursors.{cells_rest}
use Rattle.visit.proofs.RunTurns.{CellsRun}
use Rattle.visit.proofs.scan.run_cells.Given as goal

abbrev pub invariant-loop-hits : goal.invariant-loop-hits
invariant-loop-hits l = CellsRun (lines l.start_x l.start_y l.end_x l.end_y) l.cols l.cells l.offsets l.items l.initial.cell l.initial.i l.initial.j l.initial.first l.initial.second l.initial.places l.first l.second l.places l.cell l.i l.j l.tests l.hits

abbrev pub decreases-loop-hits : goal.decreases-loop-hits
decreases-loop-hits l = length (cells_rest l.cols l.offsets l.items (l.cells - l.cell) l.cell l.i l.j)
