-- `snap::snap_point` meets its contract: the first check that refuses gives the answer, else the two coordinates do. Assumes nothing.
use Rattle.std.specs.Prelude.{Ok, Result}
use mathlib.Core.Path.{sym, ap₂, ◌∙◌}
use Rattle.refusals.specs.declared.Refusal.{Refusal}
use Rattle.refusals.specs.Refusals.{answer_by}
use Rattle.refusals.proofs.Answers.{at_exit, refused_by, past}
use Rattle.snap.specs.declared.Snapped.{Snapped}
use Rattle.snap.specs.Snap.{snap_answer}
use Rattle.snap.proofs.snap_point.Goals as goal

pub returns-in_err-check_point : goal.returns-in_err-check_point
unfolding snap_answer
returns-in_err-check_point c = at_exit c.from_residual.ensures.1 (refused_by _ _ _ _ _ (sym c.in_err-check_point.ensures))

pub returns-in_err-check_snap : goal.returns-in_err-check_snap
unfolding snap_answer
returns-in_err-check_snap c =
    let p = sym c.in_ok-check_point.ensures in
    at_exit c.from_residual-in_err-check_snap.ensures.1 (refused_by _ _ _ _ _ (sym c.in_err-check_snap.ensures) ∙ past _ _ _ _ p)

pub returns : goal.returns
unfolding snap_answer answer_by
returns c =
    let p = sym c.in_ok-check_point.ensures in
    let q = sym c.in_ok-check_snap.ensures in
    ap₂ {C = Result Snapped Refusal} (λ x y. Ok (record { x = x; y = y })) c.snap.ensures c.snap-2.ensures ∙ past _ _ _ _ q ∙ past _ _ _ _ p
