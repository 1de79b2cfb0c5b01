-- `report::refused_line` meets its contract. Assumes nothing.
use mathlib.Core.Path.{sym}
use Rattle.report.specs.Lines.{refused_line}
use Rattle.report.proofs.Putting.{puts_text, puts_line, spaced_one}
use Rattle.report.proofs.refused_line.Goals as goal

pub returns : goal.returns
unfolding refused_line
returns c = puts_line c.put_all-at.ensures (puts_text (sym (spaced_one _)) c.put_number-at.ensures) c.put.ensures
