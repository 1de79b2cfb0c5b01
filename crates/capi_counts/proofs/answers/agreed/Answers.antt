-- `capi_counts::answers::agreed` meets its contract: each case of the answer is handed over. Assumes nothing.
use mathlib.Core.Path.{sym, ap}
use native.Mathlib.Omega.{arith}
use Rattle.replies.specs.Answers.{of_check}
use Rattle.replies.proofs.Handing.{replied, wider}
use Rattle.capi_counts.specs.Answers.{of_grid_answer}
use Rattle.capi_counts.proofs.answers.agreed.Goals as goal

pub returns-in-Ok : goal.returns-in-Ok
unfolding of_grid_answer
returns-in-Ok c = replied 6 (ap of_grid_answer (sym c.in-Ok.is)) c.gridded.ensures

pub returns-in-Err : goal.returns-in-Err
unfolding of_grid_answer of_check
returns-in-Err c = replied 6 (ap of_grid_answer (sym c.in-Err.is)) (wider 1 6 (omega arith) c.requires c.checked.ensures)
