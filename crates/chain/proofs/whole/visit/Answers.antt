-- `chain::whole::visit` meets its contract. The invariant: so many tests were made, and the overlaps among them counted. Assumes nothing.
use mathlib.Core.Path.{refl}
use native.Mathlib.Omega.{arith}
use Rattle.refusals.proofs.Answers.{at_exit}
use Rattle.chain.proofs.Visiting.{visiting_none, visiting_few, visiting_more, visiting_less, visit_refused, visit_tally, visit_counted}
use Rattle.chain.proofs.whole.visit.Goals as goal

pub loop-t-init : goal.loop-t-init
loop-t-init c = visiting_none _ _

pub returns-in_err-t : goal.returns-in_err-t
returns-in_err-t c = at_exit c.from_residual.ensures.1 (visit_refused _ _ _ _ _ _ c.in_err-t.ensures c.loop-t.invariant _ refl)

pub returns-then-t-eq0 : goal.returns-then-t-eq0
returns-then-t-eq0 c = visit_counted _ _ _ _ _ _ c.in_ok-t.ensures c.loop-t.invariant c.in_ok-t.t refl c.if-t-eq0.true

pub overflow_add-overlaps : goal.overflow_add-overlaps
overflow_add-overlaps c =
    let f = visiting_few _ _ _ _ c.in_ok-t.t (visit_tally _ _ _ _ _ _ c.in_ok-t.ensures c.loop-t.invariant c.in_ok-t.t refl) c.loop-t.invariant in
    omega arith

pub loop-t-smaller : goal.loop-t-smaller
loop-t-smaller c = visiting_less _ _ _ _ c.in_ok-t.t (visit_tally _ _ _ _ _ _ c.in_ok-t.ensures c.loop-t.invariant c.in_ok-t.t refl) c.loop-t.invariant c.if-t-eq0.false

pub loop-t-preserved : goal.loop-t-preserved
loop-t-preserved c = visiting_more _ _ _ _ c.in_ok-t.t (visit_tally _ _ _ _ _ _ c.in_ok-t.ensures c.loop-t.invariant c.in_ok-t.t refl) c.loop-t.invariant
