-- `report::put_two` meets its contract. Assumes nothing.
use mathlib.Core.Path.{sym}
use Rattle.report.proofs.Putting.{puts_text, puts_then, spaced_two}
use Rattle.report.proofs.put_two.Goals as goal

pub returns : goal.returns
returns c = puts_text (sym (spaced_two _ _)) (puts_then c.put_number-at.ensures c.put_number.ensures)
