-- `seek::bookmarks::seek_line` meets its contract. The invariant: what is left is dropped from the lines from k on. Assumes nothing.
use Rattle.seek.proofs.SeekTurns.{LineSeek}
use Rattle.seek.proofs.bookmarks.seek_line.Given as goal

abbrev pub invariant-loop-q : goal.invariant-loop-q
invariant-loop-q l = LineSeek l.lines l.count l.globals l.p l.left-2 l.left l.q l.k
