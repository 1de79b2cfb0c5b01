-- `report::put` meets its contract. Assumes nothing.
use Rattle.report.proofs.Putting.{puts_room, puts_full}
use Rattle.report.proofs.put.Goals as goal

pub returns-then-at-out : goal.returns-then-at-out
returns-then-at-out c = puts_room _ _ _ c.if-at-out.true

pub returns : goal.returns
returns c = puts_full _ _ _ c.if-at-out.false
