-- `through::rows::run_cells` meets its contract. The invariant: what was left at the start is what was made and what is left now. Assumes nothing.
use Prim.Native.Nat.{◌-◌}
use Rattle.grid.specs.Domain.{lines}
use Rattle.through.proofs.CellTurns.{CellsRun}
use Rattle.through.proofs.rows.run_cells.Given as goal

abbrev pub invariant-loop-cell : goal.invariant-loop-cell
invariant-loop-cell l = CellsRun (lines l.start_x l.start_y l.end_x l.end_y) l.cols l.reach l.offsets l.items l.cell-2 l.i-2 l.j-2 l.initial.room l.initial.marks l.initial.first l.initial.second l.room l.marks l.first l.second l.cell l.i l.j l.tests l.hits

abbrev pub decreases-loop-cell : goal.decreases-loop-cell
decreases-loop-cell l = l.reach - l.cell
