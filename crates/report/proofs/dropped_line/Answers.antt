-- `report::dropped_line` meets its contract. Assumes nothing.
use Rattle.report.specs.Lines.{dropped_line}
use Rattle.report.proofs.Putting.{puts_then, puts_line}
use Rattle.report.proofs.dropped_line.Goals as goal

pub returns : goal.returns
unfolding dropped_line
returns c = puts_line c.put_decimal-at.ensures (puts_then c.put_number-at.ensures c.put_reason-at.ensures) c.put.ensures
