-- `report::put_number` meets its contract. Assumes nothing.
use Rattle.report.proofs.Putting.{puts_then}
use Rattle.report.proofs.put_number.Goals as goal

pub returns : goal.returns
returns c = puts_then c.put-at.ensures c.put_decimal.ensures
