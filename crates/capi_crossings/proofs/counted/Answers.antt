-- `capi_crossings::counted` meets its contract, case by case. Assumes nothing.
use mathlib.Core.Path.{sym, ap}
use Rattle.replies.specs.Answers.{of_cells}
use Rattle.capi_pairs.specs.Answers.{of_once}
use Rattle.capi_crossings.proofs.counted.Goals as goal

pub returns-in-Ok : goal.returns-in-Ok
unfolding of_cells of_once
returns-in-Ok c = ap of_once (sym c.in-Ok.is)

pub returns-in-Err : goal.returns-in-Err
unfolding of_cells of_once
returns-in-Err c = ap of_once (sym c.in-Err.is)
