-- `blocks::owning::are_same` meets its contract: no number before b differs. Assumes nothing.
use lib.Dec.{eqb}
use lib.ListN.{get_or}
use Rattle.blocks.proofs.Owns.{Testing}
use Rattle.blocks.proofs.owning.are_same.Given as goal

abbrev pub invariant-loop-b : goal.invariant-loop-b
invariant-loop-b l = Testing (λ k. eqb (get_or l.summary k 0) (get_or l.numbers k 0)) l.n l.b
