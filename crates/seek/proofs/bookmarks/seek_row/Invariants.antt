-- `seek::bookmarks::seek_row` meets its contract. The invariant: what is left is dropped from the rows from i on. Assumes nothing.
use Rattle.seek.proofs.SeekTurns.{RowSeek}
use Rattle.seek.proofs.bookmarks.seek_row.Given as goal

abbrev pub invariant-loop-i : goal.invariant-loop-i
invariant-loop-i l = RowSeek l.len l.left-2 l.left l.i
