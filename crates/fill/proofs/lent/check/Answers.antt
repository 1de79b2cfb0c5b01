-- `fill::lent::check` meets its contract. Assumes nothing.
use Rattle.refusals.proofs.Answers.{at_exit}
use mathlib.Core.Path.{sym, ◌∙◌}
use Rattle.fill.proofs.Entries.{scratch_refused, lines_refused, grid_refused, grid_fits, room_last}
use Rattle.fill.proofs.lent.check.Goals as goal

pub returns-in_err-check_scratch : goal.returns-in_err-check_scratch
returns-in_err-check_scratch c = at_exit c.from_residual.ensures.1 (scratch_refused _ _ _ _ _ (sym c.in_err-check_scratch.ensures))

pub returns-in_err-check_lines : goal.returns-in_err-check_lines
returns-in_err-check_lines c =
    at_exit c.from_residual-in_err-check_lines.ensures.1 (lines_refused _ _ _ _ _ (sym c.in_ok-check_scratch.ensures) (sym c.in_err-check_lines.ensures))

pub returns-in_err-check_grid : goal.returns-in_err-check_grid
returns-in_err-check_grid c =
    at_exit c.from_residual-in_err-check_grid.ensures.1 (grid_refused _ _ _ _ _ (sym c.in_ok-check_scratch.ensures) (sym c.in_ok-check_lines.ensures) (sym c.in_err-check_grid.ensures))

pub check_room-requires : goal.check_room-requires
check_room-requires c = grid_fits _ (sym c.in_ok-check_grid.ensures)

pub returns : goal.returns
returns c = c.check_room.ensures ∙ room_last _ _ _ _ (sym c.in_ok-check_scratch.ensures) (sym c.in_ok-check_lines.ensures) (sym c.in_ok-check_grid.ensures)
