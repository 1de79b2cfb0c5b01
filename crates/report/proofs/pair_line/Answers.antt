-- `report::pair_line` meets its contract. Assumes nothing.
use Rattle.report.specs.Lines.{pair_line}
use Rattle.report.proofs.Putting.{puts_line}
use Rattle.report.proofs.pair_line.Goals as goal

pub returns : goal.returns
unfolding pair_line
returns c = puts_line c.put_all-at.ensures c.put_two-at.ensures c.put.ensures
