-- `seek::bookmarks::seek_cell` meets its contract. The invariant: what is left is dropped from the cells from `cell` on. Assumes nothing.
use Rattle.seek.proofs.SeekTurns.{CellSeek}
use Rattle.seek.proofs.bookmarks.seek_cell.Given as goal

abbrev pub invariant-loop-cell : goal.invariant-loop-cell
invariant-loop-cell l = CellSeek l.cells l.offsets l.items l.left-2 l.left l.cell
