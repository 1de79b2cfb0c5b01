-- `capi_resume::stores::started` meets its contract. Assumes nothing.
use mathlib.Core.Path.{sym, ap}
use Rattle.replies.proofs.Handing.{answered}
use Rattle.capi_resume.specs.Answers.{of_start}
use Rattle.capi_resume.proofs.stores.started.Goals as goal

pub returns-in-Ok : goal.returns-in-Ok
unfolding of_start
returns-in-Ok c = answered (ap of_start (sym c.in-Ok.is)) c.three.ensures

pub returns-in-Err : goal.returns-in-Err
unfolding of_start
returns-in-Err c = answered (ap of_start (sym c.in-Err.is)) c.refused.ensures
