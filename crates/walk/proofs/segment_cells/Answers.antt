-- `walk::segment_cells` meets its contract: the checks, and the walk behind them. Assumes nothing.
use Rattle.std.proofs.lemmas.Result.{err_from_is_err_and}
use mathlib.Core.Path.{sym}
use Rattle.walk.proofs.Answer.{reach_refused, reach_walked}
use Rattle.walk.proofs.segment_cells.Goals as goal

pub returns-in_err-check_entry : goal.returns-in_err-check_entry
returns-in_err-check_entry c =
    let p = err_from_is_err_and c.from_residual.result c.from_residual.ensures.1 in
    rw (p.1, p.2) (reach_refused _ _ _ _ (sym c.in_err-check_entry.ensures))

pub returns : goal.returns
returns c = reach_walked _ _ _ (sym c.in_ok-check_entry.ensures) c.cells_between.ensures
