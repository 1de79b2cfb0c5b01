-- `chain::show::put_cells` meets its contract. The invariant: the lines of the cells before `cell` are put. Assumes nothing.
use mathlib.Core.Path.{◌≡◌}
use Prim.Native.Nat.{◌≤◌, ◌-◌, ◌<◌, ◌^◌, ◌*◌}
use lib.ListN.{length}
use Rattle.tables.specs.Tables.{tables}
use Rattle.report.specs.Pages.{page, Puts}
use Rattle.chain.specs.Printed.{cell_lines}
use Rattle.chain.proofs.show.put_cells.Given as goal

abbrev pub invariant-loop-cell : goal.invariant-loop-cell
invariant-loop-cell l =
    (l.cell ≤ l.cells) × (l.cells ≡ l.grid.rows * l.grid.cols) × (l.cells < 2 ^ 32) × (length l.out ≡ length l.initial.out)
    × Puts (cell_lines (tables l.grid l.lines l.offsets l.items l.globals l.global_count) l.cell) (page l.initial.out l.at-2) (page l.out l.at)
