-- `seek::bookmarks::seek_global` meets its contract. The invariant: what is left is dropped from the globals from p on. Assumes nothing.
use Rattle.seek.proofs.SeekTurns.{GlobalSeek}
use Rattle.seek.proofs.bookmarks.seek_global.Given as goal

abbrev pub invariant-loop-p : goal.invariant-loop-p
invariant-loop-p l = GlobalSeek l.lines l.count l.globals l.left-2 l.left l.p
