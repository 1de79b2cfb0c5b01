-- `turns::pushes::run` meets its contract. Assumes nothing.
use Rattle.std.proofs.Common.{◌≡◌, length, take}
use Rattle.turns.specs.Pushes.{before}
use Rattle.turns.specs.InsideModular.{turns_by}
use Rattle.turns.proofs.Loop.{Going}
use Rattle.turns.proofs.pushes.run.Given as goal

abbrev pub invariant-loop-way : goal.invariant-loop-way
invariant-loop-way l = Going (before (take l.n l.initial.s) (turns_by 5000 l.cols l.rows l.way l.initial.w)) l.n l.cols l.rows l.way l.left l.w l.m l.s × (length l.s ≡ length l.initial.s)

abbrev pub decreases-loop-way : goal.decreases-loop-way
decreases-loop-way l = l.left
