-- `report::put_pattern` meets its contract. Assumes nothing.
use Rattle.report.proofs.Putting.{puts_then}
use Rattle.report.proofs.put_pattern.Goals as goal

pub returns : goal.returns
returns c = puts_then c.put-at.ensures c.put_hex.ensures
