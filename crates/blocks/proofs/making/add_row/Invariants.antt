-- `blocks::making::add_row` meets its contract: the cells before x are added. Assumes nothing.
use Prim.Native.Nat.{◌-◌}
use Rattle.blocks.proofs.Telling.{Across}
use Rattle.blocks.proofs.making.add_row.Given as goal

abbrev pub invariant-loop-x : goal.invariant-loop-x
invariant-loop-x l = Across l.cols l.offsets l.at l.first l.initial.summary l.summary l.x l.block

abbrev pub decreases-loop-x : goal.decreases-loop-x
decreases-loop-x l = l.cols - l.x
