-- `capi_counts::answers::counted` meets its contract: each case of the answer is handed over. Assumes nothing.
use mathlib.Core.Path.{sym, ap}
use native.Mathlib.Omega.{arith}
use Rattle.replies.specs.Answers.{of_check}
use Rattle.replies.proofs.Handing.{replied, wider}
use Rattle.capi_counts.specs.Answers.{of_counted}
use Rattle.capi_counts.proofs.answers.counted.Goals as goal

pub returns-in-Ok : goal.returns-in-Ok
unfolding of_counted
returns-in-Ok c = replied 2 (ap of_counted (sym c.in-Ok.is)) c.two.ensures

pub returns-in-Err : goal.returns-in-Err
unfolding of_counted of_check
returns-in-Err c = replied 2 (ap of_counted (sym c.in-Err.is)) (wider 1 2 (omega arith) c.requires c.checked.ensures)
