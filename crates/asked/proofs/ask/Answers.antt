-- `asked::ask` meets its contract. Assumes nothing.
use mathlib.Core.Path.{refl}
use Rattle.asked.proofs.Lending.{none, also, too_long, of_walk, of_build, of_batch, of_test_lem, of_owners, of_other}
use Rattle.asked.proofs.ask.Goals as goal

pub returns-then-question-gt16384 : goal.returns-then-question-gt16384
returns-then-question-gt16384 c = none _ (too_long _ _ c.if-question-gt16384.true)

pub returns-then-kind-eq2 : goal.returns-then-kind-eq2
returns-then-kind-eq2 c = also c.walk.ensures (λ _. of_walk c.if-question-gt16384.false c.if-kind-eq2.true)

pub returns-then-kind-eq3 : goal.returns-then-kind-eq3
returns-then-kind-eq3 c = also c.build.ensures (λ _. of_build c.if-question-gt16384.false c.if-kind-eq3.true)

pub returns-then-kind-eq4 : goal.returns-then-kind-eq4
returns-then-kind-eq4 c = also c.batch.ensures (λ _. of_batch c.if-question-gt16384.false c.if-kind-eq4.true)

pub returns-then-kind-eq5 : goal.returns-then-kind-eq5
returns-then-kind-eq5 c = record { words = _; is = of_test_lem c.if-question-gt16384.false c.if-kind-eq5.true refl; put = c.test.ensures }

pub returns-then-kind-eq11 : goal.returns-then-kind-eq11
returns-then-kind-eq11 c = also c.owners.ensures (λ _. of_owners c.if-question-gt16384.false c.if-kind-eq11.true)

pub returns : goal.returns
returns c = record { words = _; is = of_other c.if-question-gt16384.false c.if-kind-eq2.false c.if-kind-eq3.false c.if-kind-eq4.false c.if-kind-eq5.false c.if-kind-eq11.false refl; put = c.ask.ensures }
