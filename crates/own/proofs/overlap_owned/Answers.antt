-- `own::overlap_owned` meets its contract: the first check that refuses gives the answer, else the test of the snapped end does.
-- Assumes nothing.
use Rattle.std.proofs.Common.{sym, ap, ◌∙◌, ap₂}
use Rattle.refusals.specs.Refusals.{answer_by}
use Rattle.refusals.proofs.Answers.{at_exit, refused_by, past}
use Rattle.snap.proofs.Snapping.{snapped, not_snapped}
use Rattle.own.specs.Own.{owned, owns_overlap, overlap_answer}
use Rattle.own.proofs.Tests.{place_point}
use Rattle.own.proofs.overlap_owned.Goals as goal

pub returns-in_err-check_place : goal.returns-in_err-check_place
unfolding overlap_answer
returns-in_err-check_place c = at_exit c.from_residual.ensures.1 (refused_by _ _ _ _ _ (sym c.in_err-check_place.ensures))

pub returns-in_err-end : goal.returns-in_err-end
unfolding overlap_answer
returns-in_err-end c =
    let p = sym c.in_ok-check_place.ensures in
    at_exit c.from_residual-in_err-end.ensures.1 (refused_by _ _ _ _ _ (not_snapped _ _ _ _ (place_point _ _ _ p) _ (sym c.in_err-end.ensures)) ∙ past _ _ _ _ p)

pub returns-in_err-check_cell : goal.returns-in_err-check_cell
unfolding overlap_answer
returns-in_err-check_cell c =
    let p = sym c.in_ok-check_place.ensures in
    let s = snapped _ _ _ _ (place_point _ _ _ p) _ (sym c.in_ok-end.ensures) in
    at_exit c.from_residual-in_err-check_cell.ensures.1 (refused_by _ _ _ _ _ (sym c.in_err-check_cell.ensures) ∙ past _ _ _ _ s.0 ∙ past _ _ _ _ p)

pub returns : goal.returns
unfolding overlap_answer answer_by
returns c =
    let p = sym c.in_ok-check_place.ensures in
    let s = snapped _ _ _ _ (place_point _ _ _ p) _ (sym c.in_ok-end.ensures) in
    let q = sym c.in_ok-check_cell.ensures in
    ap owned (c.owns_overlap.ensures ∙ ap₂ (owns_overlap _ _ _) s.1 s.2) ∙ past _ _ _ _ q ∙ past _ _ _ _ s.0 ∙ past _ _ _ _ p
