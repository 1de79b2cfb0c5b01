-- `chain::show::put_cell` meets its contract. Assumes nothing.
use mathlib.Core.Path.{ap}
use Prim.Native.Nat.{◌/◌, ◌%◌}
use Rattle.report.specs.Lines.{cell_line}
use Rattle.report.proofs.Putting.{puts_text}
use Rattle.chain.proofs.Showing.{cell_cols, cell_list}
use Rattle.chain.proofs.show.put_cell.Goals as goal

pub nonzero_div-cell : goal.nonzero_div-cell
nonzero_div-cell c = cell_cols _ _ c.requires

pub nonzero_rem-cell : goal.nonzero_rem-cell
nonzero_rem-cell c = cell_cols _ _ c.requires

pub returns : goal.returns
returns c =
    let a = c.args in
    puts_text
    (ap (cell_line (a.cell / a.grid.cols) (a.cell % a.grid.cols)) (cell_list _ _ c.requires c.wide.result c.wide.ensures c.list_of-list.ensures))
    c.cell_line.ensures
