-- `blocks::adding::add_part` meets its contract: the numbers before `block` are added. Assumes nothing.
use Rattle.blocks.proofs.Rectangles.{Along}
use Rattle.blocks.proofs.adding.add_part.Given as goal

abbrev pub invariant-loop-block : goal.invariant-loop-block
invariant-loop-block l = Along l.summary l.from l.below l.so_far l.block l.sum
