-- `report::grid_line` meets its contract. Assumes nothing.
use Rattle.report.specs.Lines.{grid_line}
use Rattle.report.proofs.Putting.{puts_then, puts_line}
use Rattle.report.proofs.grid_line.Goals as goal

pub returns : goal.returns
unfolding grid_line
returns c =
    puts_line c.put_all-at.ensures
    (puts_then c.put_two-at.ensures
    (puts_then c.put_pattern-at.ensures
    (puts_then c.put_pattern-at-2.ensures c.put_two-at-2.ensures)))
    c.put.ensures
