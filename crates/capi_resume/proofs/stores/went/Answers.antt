-- `capi_resume::stores::went` meets its contract. Assumes nothing.
use mathlib.Core.Path.{sym, ap}
use Rattle.replies.proofs.Handing.{answered}
use Rattle.capi_resume.specs.Answers.{of_next}
use Rattle.capi_resume.proofs.stores.went.Goals as goal

pub returns-in-Ok : goal.returns-in-Ok
unfolding of_next
returns-in-Ok c = answered (ap of_next (sym c.in-Ok.is)) c.five.ensures

pub returns-in-Err : goal.returns-in-Err
unfolding of_next
returns-in-Err c = answered (ap of_next (sym c.in-Err.is)) c.refused.ensures
