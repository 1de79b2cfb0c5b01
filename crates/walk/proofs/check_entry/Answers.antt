-- `walk::check_entry` meets its contract: the first check that refuses, or the last. Assumes nothing.
use Rattle.refusals.proofs.Answers.{at_exit}
use mathlib.Core.Path.{sym, ◌∙◌}
use Rattle.refusals.proofs.Checks.{and_then_refused, and_then_fine}
use Rattle.walk.specs.Segment.{entry_check}
use Rattle.walk.proofs.check_entry.Goals as goal

pub returns-in_err-check_scratch : goal.returns-in_err-check_scratch
unfolding entry_check
returns-in_err-check_scratch c = at_exit c.from_residual.ensures.1 (sym (and_then_refused _ _ _ (sym c.in_err-check_scratch.ensures)))

pub returns-in_err-check_segment : goal.returns-in_err-check_segment
unfolding entry_check
returns-in_err-check_segment c =
    let p = sym c.in_ok-check_scratch.ensures in
    at_exit c.from_residual-in_err-check_segment.ensures.1 (sym (and_then_fine _ _ p ∙ and_then_refused _ _ _ (sym c.in_err-check_segment.ensures)))

pub returns : goal.returns
unfolding entry_check
returns c =
    let p = sym c.in_ok-check_scratch.ensures in
    let q = sym c.in_ok-check_segment.ensures in
    c.check_grid.ensures ∙ sym (and_then_fine _ _ p ∙ and_then_fine _ _ q)
