-- `capi_members::answers::multi_read` meets its contract: each case of the answer is handed over. Assumes nothing.
use mathlib.Core.Path.{sym, ap}
use native.Mathlib.Omega.{arith}
use Rattle.replies.specs.Answers.{of_check}
use Rattle.replies.proofs.Handing.{replied, wider}
use Rattle.capi_members.specs.Answers.{of_multi_read}
use Rattle.capi_members.proofs.answers.multi_read.Goals as goal

pub returns-in-Ok : goal.returns-in-Ok
unfolding of_multi_read
returns-in-Ok c = replied 2 (ap of_multi_read (sym c.in-Ok.is)) c.counts.ensures

pub returns-in-Err : goal.returns-in-Err
unfolding of_multi_read of_check
returns-in-Err c = replied 2 (ap of_multi_read (sym c.in-Err.is)) (wider 1 2 (omega arith) c.requires c.checked.ensures)
