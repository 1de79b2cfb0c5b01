-- `report::put_reason` meets its contract. Assumes nothing.
use borrow.Author.Tests.{eq-eqb, ne_eqb}
use Rattle.report.specs.Lines.{reason_word}
use Rattle.report.proofs.Putting.{puts_then}
use Rattle.report.proofs.put_reason.Goals as goal

pub returns-then-reason-eq1 : goal.returns-then-reason-eq1
unfolding reason_word
returns-then-reason-eq1 c = rw (eq-eqb _ _ c.if-reason-eq1.true) (puts_then c.put-at.ensures c.put_all.ensures)

pub returns-then-reason-eq2 : goal.returns-then-reason-eq2
unfolding reason_word
returns-then-reason-eq2 c = rw (ne_eqb _ _ c.if-reason-eq1.false, eq-eqb _ _ c.if-reason-eq2.true) (puts_then c.put-at.ensures c.put_all-then-reason-eq2.ensures)

pub returns : goal.returns
unfolding reason_word
returns c = rw (ne_eqb _ _ c.if-reason-eq1.false, ne_eqb _ _ c.if-reason-eq2.false) (puts_then c.put-at.ensures c.put_all-2.ensures)
