-- `once::cells::scan_cells` meets its contract. Assumes nothing.
use mathlib.Core.Path.{refl, ◌∙◌}
use native.Mathlib.Omega.{arith}
use Rattle.first_tests.proofs.Lists.{cells_begin, cells_done, cell_rows, cell_counts, cells_next}
use Rattle.once.proofs.cells.scan_cells.Goals as goal

pub loop-cell-init : goal.loop-cell-init
loop-cell-init c = let h = c.requires in record { long = refl; held = record { long = refl; held = record { fine = h.fine; asks = cells_begin h.asks } } }

pub list_of-list-requires : goal.list_of-list-requires
list_of-list-requires c = record { m = _; fits = c.loop-cell.invariant.held.held.asks.asks.table.fits; inside = c.loop-cell-test.true }

pub overflow_cast-cell : goal.overflow_cast-cell
overflow_cast-cell c = omega (arith, c.loop-cell.invariant.held.held.asks.asks.few_cells)

pub slice_bounds-scan_cell-end : goal.slice_bounds-scan_cell-end
slice_bounds-scan_cell-end c = omega (arith, c.loop-cell.invariant.long)

pub slice_bounds-scan_cell-end-in-loop-cell : goal.slice_bounds-scan_cell-end-in-loop-cell
slice_bounds-scan_cell-end-in-loop-cell c = omega (arith, c.loop-cell.invariant.held.long)

pub scan_cell-hits-requires : goal.scan_cell-hits-requires
scan_cell-hits-requires c =
    let h = c.loop-cell.invariant.held.held in
    record { fine = h.fine; asks = cell_rows h.asks c.loop-cell-test.true c.list_of-list.ensures }

pub count_list-requires : goal.count_list-requires
count_list-requires c = cell_counts c.loop-cell.invariant.held.held.asks c.loop-cell-test.true c.list_of-list.ensures

pub loop-cell-preserved : goal.loop-cell-preserved
loop-cell-preserved c =
    let d = c.scan_cell-hits in
    let k = c.count_list in
    let h = c.loop-cell.invariant in
    record {
      long = d.auto.marks ∙ h.long;
      held = record {
        long = d.auto.room ∙ h.held.long;
        held = record {
          fine = h.held.held.fine;
          asks = cells_next h.held.held.asks c.loop-cell-test.true c.list_of-list.ensures d.ensures k.ensures k.auto.counts d.auto.first d.auto.second;
        };
      };
    }

pub shape_of-counts : goal.shape_of-counts
shape_of-counts c = c.loop-cell.invariant.held.held.asks.counts_long

pub shape_of-first : goal.shape_of-first
shape_of-first c = c.loop-cell.invariant.held.held.asks.first_long

pub shape_of-second : goal.shape_of-second
shape_of-second c = c.loop-cell.invariant.held.held.asks.second_long

pub returns : goal.returns
returns c = cells_done c.loop-cell.invariant.held.held.asks c.loop-cell-test.false
