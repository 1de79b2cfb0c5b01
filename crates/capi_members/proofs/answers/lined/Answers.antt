-- `capi_members::answers::lined` meets its contract: each case of the answer is handed over. Assumes nothing.
use mathlib.Core.Path.{sym, ap}
use Rattle.replies.specs.Answers.{of_check}
use Rattle.replies.proofs.Handing.{replied}
use Rattle.capi_members.specs.Answers.{of_lined}
use Rattle.capi_members.proofs.answers.lined.Goals as goal

pub returns-in-Ok : goal.returns-in-Ok
unfolding of_lined
returns-in-Ok c = replied 1 (ap of_lined (sym c.in-Ok.is)) c.count.ensures

pub returns-in-Err : goal.returns-in-Err
unfolding of_lined of_check
returns-in-Err c = replied 1 (ap of_lined (sym c.in-Err.is)) c.checked.ensures
