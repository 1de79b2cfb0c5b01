-- `report::global_line` meets its contract. Assumes nothing.
use Rattle.report.proofs.Putting.{puts_line, global_none, global_some}
use Rattle.report.proofs.global_line.Goals as goal

pub returns-then-list-eq0 : goal.returns-then-list-eq0
returns-then-list-eq0 c = global_none _ c.if-list-eq0.true _

pub returns : goal.returns
returns c = global_some _ c.if-list-eq0.false (puts_line c.put_all-at.ensures c.put_list-at.ensures c.put.ensures)
