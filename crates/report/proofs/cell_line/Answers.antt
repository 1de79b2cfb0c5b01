-- `report::cell_line` meets its contract. Assumes nothing.
use Rattle.report.proofs.Putting.{puts_then, puts_line, cell_none, cell_some}
use Rattle.report.proofs.cell_line.Goals as goal

pub returns-then-list-eq0 : goal.returns-then-list-eq0
returns-then-list-eq0 c = cell_none _ _ _ c.if-list-eq0.true _

pub returns : goal.returns
returns c =
    cell_some _ _ _ c.if-list-eq0.false
    (puts_line c.put_all-at.ensures (puts_then c.put_two-at.ensures c.put_list-at.ensures) c.put.ensures)
