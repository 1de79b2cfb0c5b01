-- `through::cells::check_lent` meets its contract. Assumes nothing.
use mathlib.Core.Path.{sym, ◌∙◌}
use Rattle.refusals.proofs.Answers.{at_exit}
use Rattle.through.proofs.RunLaws.{lent_outputs, lent_lengths, lent_count}
use Rattle.through.proofs.cells.check_lent.Goals as goal

pub returns-in_err-refuse_unless : goal.returns-in_err-refuse_unless
returns-in_err-refuse_unless c = at_exit c.from_residual.ensures.1 (lent_outputs _ _ _ _ (sym c.in_err-refuse_unless.ensures))

pub returns-in_err-check_lengths : goal.returns-in_err-check_lengths
returns-in_err-check_lengths c = at_exit c.from_residual-in_err-check_lengths.ensures.1 (lent_lengths _ _ _ (sym c.in_ok-refuse_unless.ensures) _ (sym c.in_err-check_lengths.ensures))

pub returns : goal.returns
returns c = c.check_count.ensures ∙ lent_count _ _ _ (sym c.in_ok-refuse_unless.ensures) (sym c.in_ok-check_lengths.ensures)
