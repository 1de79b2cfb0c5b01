-- `blocks::adding::add_rectangle` meets its contract: the rows below `row` are added. Assumes nothing.
use Rattle.blocks.proofs.Rectangles.{Upward}
use Rattle.blocks.proofs.adding.add_rectangle.Given as goal

abbrev pub invariant-loop-row : goal.invariant-loop-row
invariant-loop-row l = Upward l.width l.summary l.low l.high l.row l.sum
