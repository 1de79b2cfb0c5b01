-- `window::found::write_lines` meets its contract: the lines below i are gone through. Assumes nothing.
use lib.ListN.{length}
use Rattle.grid.specs.Domain.{lines}
use Rattle.window.specs.Inside.{met}
use Rattle.window.proofs.Those.{Writing}
use Rattle.window.proofs.found.write_lines.Given as goal

abbrev pub invariant-loop-i : goal.invariant-loop-i
invariant-loop-i l = Writing (met (lines l.start_x l.start_y l.end_x l.end_y) l.window l.marks) (length l.start_x) l.initial.out l.out l.i l.n
