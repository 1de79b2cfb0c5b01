-- `capi_blocks::counted` meets its contract, case by case. Assumes nothing.
use mathlib.Core.Path.{sym, ap}
use Rattle.replies.specs.Answers.{of_cells}
use Rattle.capi_blocks.specs.Lent.{of_count}
use Rattle.capi_blocks.proofs.counted.Goals as goal

pub returns-in-Ok : goal.returns-in-Ok
unfolding of_cells of_count
returns-in-Ok c = ap of_count (sym c.in-Ok.is)

pub returns-in-Err : goal.returns-in-Err
unfolding of_cells of_count
returns-in-Err c = ap of_count (sym c.in-Err.is)
