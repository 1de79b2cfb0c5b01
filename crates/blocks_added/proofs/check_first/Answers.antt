-- `blocks_added::check_first` meets its contract: each refusal in its order. Assumes nothing.
use Rattle.refusals.proofs.Answers.{at_exit}
use mathlib.Core.Path.{sym, ap, ◌∙◌}
use mathlib.Core.Bool.{Bool}
use Rattle.refusals.specs.Refusals.{unless}
use Rattle.refusals.proofs.Checks.{and_then_refused, and_then_fine}
use Rattle.added.proofs.Asking.{below_is, cells_are}
use Rattle.blocks_added.specs.Inside.{first_check}
use Rattle.blocks_added.proofs.check_first.Goals as goal

pub returns-in_err-check_summary : goal.returns-in_err-check_summary
unfolding first_check
returns-in_err-check_summary c = at_exit c.from_residual.ensures.1 (sym (and_then_refused _ _ _ (sym c.in_err-check_summary.ensures)))

pub returns-in_err-check_scratch : goal.returns-in_err-check_scratch
unfolding first_check
returns-in_err-check_scratch c =
    at_exit c.from_residual-in_err-check_scratch.ensures.1 (sym (and_then_fine _ _ (sym c.in_ok-check_summary.ensures)
    ∙ and_then_refused _ _ _ (sym c.in_err-check_scratch.ensures)))

pub returns-in_err-refuse_unless : goal.returns-in_err-refuse_unless
unfolding first_check
returns-in_err-refuse_unless c =
    at_exit c.from_residual-in_err-refuse_unless.ensures.1 (sym (and_then_fine _ _ (sym c.in_ok-check_summary.ensures)
    ∙ and_then_fine _ _ (sym c.in_ok-check_scratch.ensures)
    ∙ and_then_refused _ _ _ (sym (below_is _ c.in_err-refuse_unless.ensures))))

pub returns-in_err-check_segment : goal.returns-in_err-check_segment
unfolding first_check
returns-in_err-check_segment c =
    at_exit c.from_residual-in_err-check_segment.ensures.1 (sym (and_then_fine _ _ (sym c.in_ok-check_summary.ensures)
    ∙ and_then_fine _ _ (sym c.in_ok-check_scratch.ensures)
    ∙ and_then_fine _ _ (sym (below_is _ c.in_ok-refuse_unless.ensures))
    ∙ and_then_refused _ _ _ (sym c.in_err-check_segment.ensures)))

pub returns-in_err-refuse_unless-2 : goal.returns-in_err-refuse_unless-2
unfolding first_check
returns-in_err-refuse_unless-2 c =
    at_exit c.from_residual-in_err-refuse_unless-2.ensures.1 (sym (and_then_fine _ _ (sym c.in_ok-check_summary.ensures)
    ∙ and_then_fine _ _ (sym c.in_ok-check_scratch.ensures)
    ∙ and_then_fine _ _ (sym (below_is _ c.in_ok-refuse_unless.ensures))
    ∙ and_then_fine _ _ (sym c.in_ok-check_segment.ensures)
    ∙ and_then_refused _ _ _ (sym (cells_are _ c.in_err-refuse_unless-2.ensures c.has_cells.ensures))))

pub returns : goal.returns
unfolding first_check
returns c =
    c.refuse_unless-3.ensures
    ∙ ap (λ (b : Bool). unless b 10 0) c.is_summary.ensures
    ∙ sym (and_then_fine _ _ (sym c.in_ok-check_summary.ensures)
    ∙ and_then_fine _ _ (sym c.in_ok-check_scratch.ensures)
    ∙ and_then_fine _ _ (sym (below_is _ c.in_ok-refuse_unless.ensures))
    ∙ and_then_fine _ _ (sym c.in_ok-check_segment.ensures)
    ∙ and_then_fine _ _ (sym (cells_are _ c.in_ok-refuse_unless-2.ensures c.has_cells.ensures)))
