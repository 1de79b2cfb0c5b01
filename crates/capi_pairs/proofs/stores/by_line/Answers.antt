-- `capi_pairs::stores::by_line` meets its contract. Assumes nothing.
use mathlib.Core.Path.{sym, ap}
use Rattle.replies.proofs.Handing.{answered}
use Rattle.capi_pairs.specs.Answers.{of_by_line}
use Rattle.capi_pairs.proofs.stores.by_line.Goals as goal

pub returns-in-Ok : goal.returns-in-Ok
unfolding of_by_line
returns-in-Ok c = answered (ap of_by_line (sym c.in-Ok.is)) c.one.ensures

pub returns-in-Err : goal.returns-in-Err
unfolding of_by_line
returns-in-Err c = answered (ap of_by_line (sym c.in-Err.is)) c.refused.ensures
