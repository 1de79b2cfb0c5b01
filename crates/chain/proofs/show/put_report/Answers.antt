-- `chain::show::put_report` meets its contract. Assumes nothing.
use mathlib.Core.Path.{sym}
use lib.Seq.{length-take-le}
use Rattle.report.proofs.Putting.{puts_then}
use Rattle.chain.specs.Printed.{report_of}
use Rattle.chain.proofs.show.put_report.Goals as goal

pub put_cells-at-requires : goal.put_cells-at-requires
put_cells-at-requires c = c.requires

pub slice_bounds-global_line-end : goal.slice_bounds-global_line-end
slice_bounds-global_line-end c = sym (length-take-le _ _ c.requires.globals.long)

pub returns : goal.returns
unfolding report_of
returns c =
    rw (← c.to_bits.ensures, ← c.to_bits-2.ensures)
    (puts_then c.grid_line-at.ensures
    (puts_then c.put_cells-at.ensures (puts_then c.global_line-at.ensures c.visit_line.ensures)))
