-- `blocks_added::raising::raise` meets its contract: the first cells are added. Assumes nothing.
use Rattle.blocks_added.proofs.Raises.{Raising}
use Rattle.blocks_added.proofs.raising.raise.Given as goal

abbrev pub invariant-loop-cell : goal.invariant-loop-cell
invariant-loop-cell l = Raising l.grid.cols l.cells l.initial.summary l.summary l.cell-index
