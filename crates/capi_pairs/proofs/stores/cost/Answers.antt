-- `capi_pairs::stores::cost` meets its contract. Assumes nothing.
use mathlib.Core.Path.{sym, ap}
use Rattle.replies.proofs.Handing.{answered}
use Rattle.capi_pairs.specs.Answers.{of_cost}
use Rattle.capi_pairs.proofs.stores.cost.Goals as goal

pub returns-in-Ok : goal.returns-in-Ok
unfolding of_cost
returns-in-Ok c = answered (ap of_cost (sym c.in-Ok.is)) c.two.ensures

pub returns-in-Err : goal.returns-in-Err
unfolding of_cost
returns-in-Err c = answered (ap of_cost (sym c.in-Err.is)) c.refused.ensures
