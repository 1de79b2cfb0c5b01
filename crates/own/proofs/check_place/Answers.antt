-- `own::check_place` meets its contract. Assumes nothing.
use Rattle.refusals.proofs.Answers.{at_exit}
use Rattle.std.proofs.Common.{sym, ◌∙◌}
use Rattle.own.proofs.Tests.{place_refused, place_rest}
use Rattle.own.proofs.check_place.Goals as goal

pub returns-in_err-check_point : goal.returns-in_err-check_point
returns-in_err-check_point c = at_exit c.from_residual.ensures.1 (place_refused _ _ _ _ (sym c.in_err-check_point.ensures))

pub returns : goal.returns
returns c = c.check_grid.ensures ∙ place_rest _ _ _ (sym c.in_ok-check_point.ensures)
