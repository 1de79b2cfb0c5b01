-- `build::choose::build_some` meets its contract. Assumes nothing.
use Rattle.grid.specs.Domain.{lines}
use Rattle.build.proofs.Choices.{Choosing}
use Rattle.build.proofs.choose.build_some.Given as goal

abbrev pub invariant-loop-built : goal.invariant-loop-built
invariant-loop-built l = Choosing l.mode (lines l.start_x l.start_y l.end_x l.end_y) l.initial.offsets l.initial.items l.initial.globals l.initial.scratch l.extent l.initial.size l.offsets l.items l.globals l.scratch l.size l.left

abbrev pub decreases-loop-built : goal.decreases-loop-built
decreases-loop-built l = l.left
