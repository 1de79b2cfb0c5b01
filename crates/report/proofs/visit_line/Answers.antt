-- `report::visit_line` meets its contract. Assumes nothing.
use Rattle.report.specs.Lines.{visit_line}
use Rattle.report.proofs.Putting.{puts_line}
use Rattle.report.proofs.visit_line.Goals as goal

pub returns : goal.returns
unfolding visit_line
returns c = puts_line c.put_all-at.ensures c.put_two-at.ensures c.put.ensures
