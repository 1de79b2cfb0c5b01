-- `report::crossings_line` meets its contract. Assumes nothing.
use mathlib.Core.Path.{sym}
use Rattle.report.specs.Lines.{crossings_line}
use Rattle.report.proofs.Putting.{puts_text, puts_line, spaced_one}
use Rattle.report.proofs.crossings_line.Goals as goal

pub returns : goal.returns
unfolding crossings_line
returns c = puts_line c.put_all-at.ensures (puts_text (sym (spaced_one _)) c.put_number-at.ensures) c.put.ensures
