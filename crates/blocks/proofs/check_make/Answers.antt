-- `blocks::check_make` meets its contract: 3, then what the tables are checked for. Assumes nothing.
use Rattle.refusals.proofs.Answers.{at_exit}
use mathlib.Core.Path.{sym, ◌∙◌}
use Rattle.refusals.proofs.Checks.{and_then_refused, and_then_fine}
use Rattle.blocks.proofs.check_make.Goals as goal

pub returns-in_err-check_summary : goal.returns-in_err-check_summary
returns-in_err-check_summary c = at_exit c.from_residual.ensures.1 (sym (and_then_refused _ _ _ (sym c.in_err-check_summary.ensures)))

pub returns : goal.returns
returns c = c.check_tables.ensures ∙ sym (and_then_fine _ _ (sym c.in_ok-check_summary.ensures))
