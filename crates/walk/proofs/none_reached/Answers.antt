-- `walk::none_reached` meets its contract. Assumes nothing.
use Rattle.refusals.proofs.Answers.{at_exit}
use mathlib.Core.Path.{sym}
use Rattle.walk.proofs.Answer.{none_refused, none_found}
use Rattle.walk.proofs.none_reached.Goals as goal

pub returns-in_err-check_room : goal.returns-in_err-check_room
returns-in_err-check_room c = at_exit c.from_residual.ensures.1 (none_refused _ _ _ (sym c.in_err-check_room.ensures))

pub returns : goal.returns
returns c = none_found _ _ (sym c.in_ok-check_room.ensures)
