-- `inner_walk::put` meets its contract. Assumes nothing.
use Rattle.inner_walk.proofs.Reply.{none_set}
use Rattle.inner_walk.proofs.put.Goals as goal

pub returns-then-out-eq0 : goal.returns-then-out-eq0
returns-then-out-eq0 c = none_set _ _ c.if-out-eq0.true
