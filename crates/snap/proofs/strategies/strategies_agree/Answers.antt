-- `snap::strategies::strategies_agree` meets its contract: the first check that refuses gives the answer, else the test does. Assumes nothing.
use mathlib.Core.Path.{sym, ◌∙◌}
use Rattle.refusals.specs.Refusals.{answer_by}
use Rattle.refusals.proofs.Answers.{at_exit, refused_by, past}
use Rattle.refusals.proofs.Checks.{unless_fine}
use Rattle.numbers.proofs.Tests.{holds}
use Rattle.grid.specs.Domain.{coordinate_check}
use Rattle.snap.specs.Snap.{snap_size_check}
use Rattle.snap.specs.Strategies.{agreement_answer}
use Rattle.snap.proofs.strategies.strategies_agree.Goals as goal

pub returns-in_err-check_coordinate : goal.returns-in_err-check_coordinate
unfolding agreement_answer
returns-in_err-check_coordinate c = at_exit c.from_residual.ensures.1 (refused_by _ _ _ _ _ (sym c.in_err-check_coordinate.ensures))

pub returns-in_err-check_snap_size : goal.returns-in_err-check_snap_size
unfolding agreement_answer
returns-in_err-check_snap_size c =
    let p = sym c.in_ok-check_coordinate.ensures in
    at_exit c.from_residual-in_err-check_snap_size.ensures.1 (refused_by _ _ _ _ _ (sym c.in_err-check_snap_size.ensures) ∙ past _ _ _ _ p)

pub compare-requires : goal.compare-requires
unfolding coordinate_check snap_size_check
compare-requires c =
    let p = sym c.in_ok-check_coordinate.ensures in
    let q = sym c.in_ok-check_snap_size.ensures in
    record { v_in_range = holds _ (unless_fine _ _ _ p); size_in_range = holds _ (unless_fine _ _ _ q) }

pub returns : goal.returns
unfolding agreement_answer answer_by
returns c =
    let p = sym c.in_ok-check_coordinate.ensures in
    let q = sym c.in_ok-check_snap_size.ensures in
    c.compare.ensures ∙ past _ _ _ _ q ∙ past _ _ _ _ p
