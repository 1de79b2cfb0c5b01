-- `samples::checks::check_sample_lines` meets its contract: the first check that refuses, or the search. Assumes nothing.
use Rattle.refusals.proofs.Answers.{at_exit}
use mathlib.Core.Path.{sym, ◌∙◌}
use Rattle.refusals.proofs.Checks.{and_then_refused, and_then_fine}
use Rattle.samples.specs.Samples.{sample_lines_check}
use Rattle.samples.proofs.checks.check_sample_lines.Goals as goal

pub returns-in_err-check_lengths : goal.returns-in_err-check_lengths
unfolding sample_lines_check
returns-in_err-check_lengths c = at_exit c.from_residual.ensures.1 (sym (and_then_refused _ _ _ (sym c.in_err-check_lengths.ensures)))

pub returns-in_err-check_count : goal.returns-in_err-check_count
unfolding sample_lines_check
returns-in_err-check_count c =
    let p = sym c.in_ok-check_lengths.ensures in
    at_exit c.from_residual-in_err-check_count.ensures.1 (sym (and_then_fine _ _ p ∙ and_then_refused _ _ _ (sym c.in_err-check_count.ensures)))

pub returns : goal.returns
unfolding sample_lines_check
returns c =
    let p = sym c.in_ok-check_lengths.ensures in
    let q = sym c.in_ok-check_count.ensures in
    c.check_samples.ensures ∙ sym (and_then_fine _ _ p ∙ and_then_fine _ _ q)
