-- `blocks::owning::are_same` meets its contract: no number before b differs. Assumes nothing.
use native.Mathlib.Omega.{arith}
use borrow.Author.Tests.{eq-eqb, ne_eqb}
use lib.Dec.{eqb}
use lib.ListN.{get_or}
use Rattle.blocks.proofs.Owns.{testing_none, testing_more, testing_bad, testing_done}
use Rattle.blocks.proofs.owning.are_same.Goals as goal

pub loop-b-init : goal.loop-b-init
loop-b-init c = testing_none _ _

pub returns-then-summary-b : goal.returns-then-summary-b
returns-then-summary-b c = let a = c.args in testing_bad (λ k. eqb (get_or a.summary.now k 0) (get_or a.numbers.now k 0)) _ c.loop-b.b (omega arith) (ne_eqb _ _ c.if-summary-b.true)

pub loop-b-preserved : goal.loop-b-preserved
loop-b-preserved c = testing_more c.loop-b.invariant (omega arith) (eq-eqb _ _ c.if-summary-b.false)

pub returns : goal.returns
returns c = testing_done c.loop-b.invariant (omega arith)
