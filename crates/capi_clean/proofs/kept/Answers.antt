-- `capi_clean::kept` meets its contract: each case of the answer is handed over. Assumes nothing.
use mathlib.Core.Path.{sym, ap}
use native.Mathlib.Omega.{arith}
use Rattle.replies.specs.Answers.{of_check}
use Rattle.replies.proofs.Handing.{replied, wider}
use Rattle.capi_clean.specs.Lent.{of_cleaned}
use Rattle.capi_clean.proofs.kept.Goals as goal

pub returns-in-Ok : goal.returns-in-Ok
unfolding of_cleaned
returns-in-Ok c = replied 2 (ap of_cleaned (sym c.in-Ok.is)) c.counts.ensures

pub returns-in-Err : goal.returns-in-Err
unfolding of_cleaned of_check
returns-in-Err c = replied 2 (ap of_cleaned (sym c.in-Err.is)) (wider 1 2 (omega arith) c.requires c.checked.ensures)
