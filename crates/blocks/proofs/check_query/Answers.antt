-- `blocks::check_query` meets its contract: each refusal in its order. Assumes nothing.
use Rattle.refusals.proofs.Answers.{at_exit}
use mathlib.Core.Path.{sym, ◌∙◌}
use Rattle.refusals.proofs.Checks.{and_then_refused, and_then_fine}
use Rattle.blocks.proofs.check_query.Goals as goal

pub returns-in_err-check_summary : goal.returns-in_err-check_summary
returns-in_err-check_summary c = at_exit c.from_residual.ensures.1 (sym (and_then_refused _ _ _ (sym c.in_err-check_summary.ensures)))

pub returns-in_err-check_grid : goal.returns-in_err-check_grid
returns-in_err-check_grid c = at_exit c.from_residual-in_err-check_grid.ensures.1 (sym (and_then_fine _ _ (sym c.in_ok-check_summary.ensures) ∙ and_then_refused _ _ _ (sym c.in_err-check_grid.ensures)))

pub returns-in_err-check_block : goal.returns-in_err-check_block
returns-in_err-check_block c =
    at_exit c.from_residual-in_err-check_block.ensures.1 (sym (and_then_fine _ _ (sym c.in_ok-check_summary.ensures)
    ∙ and_then_fine _ _ (sym c.in_ok-check_grid.ensures)
    ∙ and_then_refused _ _ _ (sym c.in_err-check_block.ensures)))

pub returns : goal.returns
returns c =
    c.check_block-2.ensures
    ∙ sym (and_then_fine _ _ (sym c.in_ok-check_summary.ensures)
    ∙ and_then_fine _ _ (sym c.in_ok-check_grid.ensures)
    ∙ and_then_fine _ _ (sym c.in_ok-check_block.ensures))
