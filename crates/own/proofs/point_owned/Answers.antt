-- `own::point_owned` meets its contract: the first check that refuses gives the answer, else the test does. Assumes nothing.
use Rattle.std.proofs.Common.{sym, ap, ◌∙◌}
use Rattle.refusals.specs.Refusals.{answer_by}
use Rattle.refusals.proofs.Answers.{at_exit, refused_by, past}
use Rattle.own.specs.Own.{owned, point_answer}
use Rattle.own.proofs.point_owned.Goals as goal

pub returns-in_err-check_place : goal.returns-in_err-check_place
unfolding point_answer
returns-in_err-check_place c = at_exit c.from_residual.ensures.1 (refused_by _ _ _ _ _ (sym c.in_err-check_place.ensures))

pub returns-in_err-check_cell : goal.returns-in_err-check_cell
unfolding point_answer
returns-in_err-check_cell c =
    let p = sym c.in_ok-check_place.ensures in
    at_exit c.from_residual-in_err-check_cell.ensures.1 (refused_by _ _ _ _ _ (sym c.in_err-check_cell.ensures) ∙ past _ _ _ _ p)

pub returns : goal.returns
unfolding point_answer answer_by
returns c =
    let p = sym c.in_ok-check_place.ensures in
    let q = sym c.in_ok-check_cell.ensures in
    ap owned c.owns_point.ensures ∙ past _ _ _ _ q ∙ past _ _ _ _ p
