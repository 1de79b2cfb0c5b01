-- `capi_pairs::stores::pairs_once` meets its contract. Assumes nothing.
use mathlib.Core.Path.{sym, ap}
use Rattle.replies.proofs.Handing.{answered}
use Rattle.capi_pairs.specs.Answers.{of_once}
use Rattle.capi_pairs.proofs.stores.pairs_once.Goals as goal

pub returns-in-Ok : goal.returns-in-Ok
unfolding of_once
returns-in-Ok c = answered (ap of_once (sym c.in-Ok.is)) c.one.ensures

pub returns-in-Err : goal.returns-in-Err
unfolding of_once
returns-in-Err c = answered (ap of_once (sym c.in-Err.is)) c.refused.ensures
