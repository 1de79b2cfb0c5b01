-- `agreed::counts` meets its contract. Assumes nothing.
use Prim.Native.Nat.{ℕ}
use mathlib.Core.Path.{ap}
use lib.Dec.{eqb}
use Rattle.agreed.proofs.Comparing.{told_not, told_both, kept, not_none, not_other, told}
use Rattle.agreed.proofs.counts.Goals as goal

pub returns-then-kind-wanted : goal.returns-then-kind-wanted
returns-then-kind-wanted c = (told_not (λ p. c.if-kind-wanted.true p.0), c.requires)

pub returns-then-n-eq0 : goal.returns-then-n-eq0
returns-then-n-eq0 c = (told_not (λ p. not_none c.ask-n.ensures c.requires c.if-n-eq0.true p.1), kept c.ask-n.ensures c.requires)

pub returns-then-n-answer : goal.returns-then-n-answer
returns-then-n-answer c = (told_not (λ p. not_other c.ask-n.ensures c.requires c.if-n-answer.true p.1), kept c.ask-n.ensures c.requires)

pub returns : goal.returns
returns c = (told_both c.if-kind-wanted.false (told c.ask-n.ensures c.requires c.if-n-eq0.false c.if-n-answer.false (ap (λ (i : ℕ). eqb i c.ask-n.result) c.same_to.ensures)), kept c.ask-n.ensures c.requires)
