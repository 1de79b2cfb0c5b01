-- `seek::bookmarks::seek` meets its contract. Assumes nothing.
use Prim.Native.Nat.{◌*◌}
use native.Mathlib.Omega.{arith}
use Rattle.grid.specs.Domain.{lines}
use Rattle.seek.proofs.Passed.{rows_cols, lines_few, m_fits}
use Rattle.seek.proofs.Founds.{table_globals, row_asks, row_up, row_in, row_most, sought_cell, line_asks, found_beyond, sought_end, sought_global}
use Rattle.seek.proofs.bookmarks.seek.Goals as goal

pub overflow_mul-cells : goal.overflow_mul-cells
overflow_mul-cells c =
    let a = c.args in
    let ls = lines a.start_x.now a.start_y.now a.end_x.now a.end_y.now in
    record { fits = rows_cols ls a.grid a.offsets.now a.items.now a.globals.now a.global_count c.requires c.wide.result c.wide-2.result c.wide.ensures c.wide-2.ensures }

pub seek_cell-found-requires : goal.seek_cell-found-requires
seek_cell-found-requires c =
    let a = c.args in
    let ls = lines a.start_x.now a.start_y.now a.end_x.now a.end_y.now in
    m_fits ls a.grid a.offsets.now a.items.now a.globals.now a.global_count c.requires (c.wide.result * c.wide-2.result) (rw (c.wide.ensures, c.wide-2.ensures))

pub overflow_add-cell : goal.overflow_add-cell
overflow_add-cell c =
    let a = c.args in
    let ls = lines a.start_x.now a.start_y.now a.end_x.now a.end_y.now in
    omega (arith, row_in ls a.grid a.offsets.now a.items.now a.globals.now a.global_count c.requires (c.wide.result * c.wide-2.result) (rw (c.wide.ensures, c.wide-2.ensures)) a.bookmark c.seek_cell-found.result.at c.seek_cell-found.result.left c.seek_cell-found.ensures c.if-cell-cells.true, c.well_formed.1.1.1.1.1.1.0)

pub offset_bounds-offsets-cell : goal.offset_bounds-offsets-cell
offset_bounds-offsets-cell c =
    let a = c.args in
    let ls = lines a.start_x.now a.start_y.now a.end_x.now a.end_y.now in
    omega (arith, row_in ls a.grid a.offsets.now a.items.now a.globals.now a.global_count c.requires (c.wide.result * c.wide-2.result) (rw (c.wide.ensures, c.wide-2.ensures)) a.bookmark c.seek_cell-found.result.at c.seek_cell-found.result.left c.seek_cell-found.ensures c.if-cell-cells.true, c.well_formed.1.1.1.1.1.1.0)

pub bounds-offsets-cell : goal.bounds-offsets-cell
bounds-offsets-cell c =
    let a = c.args in
    let ls = lines a.start_x.now a.start_y.now a.end_x.now a.end_y.now in
    omega (arith, row_in ls a.grid a.offsets.now a.items.now a.globals.now a.global_count c.requires (c.wide.result * c.wide-2.result) (rw (c.wide.ensures, c.wide-2.ensures)) a.bookmark c.seek_cell-found.result.at c.seek_cell-found.result.left c.seek_cell-found.ensures c.if-cell-cells.true, c.well_formed.1.1.1.1.1.1.0)

pub offset_bounds-offsets-cell-then-cell-cells : goal.offset_bounds-offsets-cell-then-cell-cells
offset_bounds-offsets-cell-then-cell-cells c =
    let a = c.args in
    let ls = lines a.start_x.now a.start_y.now a.end_x.now a.end_y.now in
    omega (arith, row_in ls a.grid a.offsets.now a.items.now a.globals.now a.global_count c.requires (c.wide.result * c.wide-2.result) (rw (c.wide.ensures, c.wide-2.ensures)) a.bookmark c.seek_cell-found.result.at c.seek_cell-found.result.left c.seek_cell-found.ensures c.if-cell-cells.true, c.well_formed.1.1.1.1.1.1.0)

pub bounds-offsets-cell-then-cell-cells : goal.bounds-offsets-cell-then-cell-cells
bounds-offsets-cell-then-cell-cells c =
    let a = c.args in
    let ls = lines a.start_x.now a.start_y.now a.end_x.now a.end_y.now in
    omega (arith, row_in ls a.grid a.offsets.now a.items.now a.globals.now a.global_count c.requires (c.wide.result * c.wide-2.result) (rw (c.wide.ensures, c.wide-2.ensures)) a.bookmark c.seek_cell-found.result.at c.seek_cell-found.result.left c.seek_cell-found.ensures c.if-cell-cells.true, c.well_formed.1.1.1.1.1.1.0)

pub overflow_sub-offsets : goal.overflow_sub-offsets
overflow_sub-offsets c =
    let a = c.args in
    let ls = lines a.start_x.now a.start_y.now a.end_x.now a.end_y.now in
    row_up ls a.grid a.offsets.now a.items.now a.globals.now a.global_count c.requires (c.wide.result * c.wide-2.result) (rw (c.wide.ensures, c.wide-2.ensures)) a.bookmark c.seek_cell-found.result.at c.seek_cell-found.result.left c.seek_cell-found.ensures c.if-cell-cells.true

pub seek_row-row-requires : goal.seek_row-row-requires
seek_row-row-requires c =
    let a = c.args in
    let ls = lines a.start_x.now a.start_y.now a.end_x.now a.end_y.now in
    row_asks ls a.grid a.offsets.now a.items.now a.globals.now a.global_count c.requires (c.wide.result * c.wide-2.result) (rw (c.wide.ensures, c.wide-2.ensures)) a.bookmark c.seek_cell-found.result.at c.seek_cell-found.result.left c.seek_cell-found.ensures c.if-cell-cells.true

pub overflow_add-j : goal.overflow_add-j
overflow_add-j c =
    let a = c.args in
    let ls = lines a.start_x.now a.start_y.now a.end_x.now a.end_y.now in
    omega (arith, row_most ls a.grid a.offsets.now a.items.now a.globals.now a.global_count c.requires (c.wide.result * c.wide-2.result) (rw (c.wide.ensures, c.wide-2.ensures)) a.bookmark c.seek_cell-found.result.at c.seek_cell-found.result.left c.seek_cell-found.ensures c.if-cell-cells.true c.seek_row-row.result.at c.seek_row-row.result.left c.seek_row-row.ensures, c.well_formed.1.1.1.1.1.1.1.0)

pub overflow_add-j-then-cell-cells : goal.overflow_add-j-then-cell-cells
overflow_add-j-then-cell-cells c =
    let a = c.args in
    let ls = lines a.start_x.now a.start_y.now a.end_x.now a.end_y.now in
    omega (arith, row_most ls a.grid a.offsets.now a.items.now a.globals.now a.global_count c.requires (c.wide.result * c.wide-2.result) (rw (c.wide.ensures, c.wide-2.ensures)) a.bookmark c.seek_cell-found.result.at c.seek_cell-found.result.left c.seek_cell-found.ensures c.if-cell-cells.true c.seek_row-row.result.at c.seek_row-row.result.left c.seek_row-row.ensures, c.well_formed.1.1.1.1.1.1.1.0)

pub returns-then-cell-cells : goal.returns-then-cell-cells
returns-then-cell-cells c =
    let a = c.args in
    let ls = lines a.start_x.now a.start_y.now a.end_x.now a.end_y.now in
    sought_cell ls a.grid a.offsets.now a.items.now a.globals.now a.global_count c.requires (c.wide.result * c.wide-2.result) (rw (c.wide.ensures, c.wide-2.ensures)) a.bookmark c.seek_cell-found.result.at c.seek_cell-found.result.left c.seek_cell-found.ensures c.if-cell-cells.true c.seek_row-row.result.at c.seek_row-row.result.left c.seek_row-row.ensures

pub overflow_cast-n : goal.overflow_cast-n
overflow_cast-n c =
    let a = c.args in
    let ls = lines a.start_x.now a.start_y.now a.end_x.now a.end_y.now in
    omega (arith, lines_few ls a.grid a.offsets.now a.items.now a.globals.now a.global_count c.requires)

pub seek_global-global-requires : goal.seek_global-global-requires
seek_global-global-requires c =
    let a = c.args in
    let ls = lines a.start_x.now a.start_y.now a.end_x.now a.end_y.now in
    table_globals ls a.grid a.offsets.now a.items.now a.globals.now a.global_count c.requires (c.wide.result * c.wide-2.result) (rw (c.wide.ensures, c.wide-2.ensures)) a.bookmark

pub overflow_cast-global : goal.overflow_cast-global
overflow_cast-global c =
    let a = c.args in
    let ls = lines a.start_x.now a.start_y.now a.end_x.now a.end_y.now in
    omega (arith, (line_asks ls a.grid a.offsets.now a.items.now a.globals.now a.global_count c.requires (c.wide.result * c.wide-2.result) (rw (c.wide.ensures, c.wide-2.ensures)) a.bookmark c.seek_cell-found.result.at c.seek_cell-found.result.left c.seek_cell-found.ensures c.if-cell-cells.false c.seek_global-global.result.at c.seek_global-global.result.left c.seek_global-global.ensures c.if-p-global_count.true).small, lines_few ls a.grid a.offsets.now a.items.now a.globals.now a.global_count c.requires)

pub seek_line-line-requires : goal.seek_line-line-requires
seek_line-line-requires c =
    let a = c.args in
    let ls = lines a.start_x.now a.start_y.now a.end_x.now a.end_y.now in
    line_asks ls a.grid a.offsets.now a.items.now a.globals.now a.global_count c.requires (c.wide.result * c.wide-2.result) (rw (c.wide.ensures, c.wide-2.ensures)) a.bookmark c.seek_cell-found.result.at c.seek_cell-found.result.left c.seek_cell-found.ensures c.if-cell-cells.false c.seek_global-global.result.at c.seek_global-global.result.left c.seek_global-global.ensures c.if-p-global_count.true

pub returns-then-p-global_count : goal.returns-then-p-global_count
returns-then-p-global_count c =
    let a = c.args in
    let ls = lines a.start_x.now a.start_y.now a.end_x.now a.end_y.now in
    sought_global ls a.grid a.offsets.now a.items.now a.globals.now a.global_count c.requires (c.wide.result * c.wide-2.result) (rw (c.wide.ensures, c.wide-2.ensures)) a.bookmark c.seek_cell-found.result.at c.seek_cell-found.result.left c.seek_cell-found.ensures c.if-cell-cells.false c.seek_global-global.result.at c.seek_global-global.result.left c.seek_global-global.ensures c.if-p-global_count.true c.seek_line-line.result.q c.seek_line-line.result.k c.seek_line-line.ensures

pub returns-then-global-gt0 : goal.returns-then-global-gt0
returns-then-global-gt0 c =
    let a = c.args in
    let ls = lines a.start_x.now a.start_y.now a.end_x.now a.end_y.now in
    found_beyond ls a.grid a.offsets.now a.items.now a.globals.now a.global_count c.requires (c.wide.result * c.wide-2.result) (rw (c.wide.ensures, c.wide-2.ensures)) a.bookmark c.seek_cell-found.result.at c.seek_cell-found.result.left c.seek_cell-found.ensures c.if-cell-cells.false c.seek_global-global.result.at c.seek_global-global.result.left c.seek_global-global.ensures c.if-p-global_count.false c.if-global-gt0.true

pub returns : goal.returns
returns c =
    let a = c.args in
    let ls = lines a.start_x.now a.start_y.now a.end_x.now a.end_y.now in
    sought_end ls a.grid a.offsets.now a.items.now a.globals.now a.global_count c.requires (c.wide.result * c.wide-2.result) (rw (c.wide.ensures, c.wide-2.ensures)) a.bookmark c.seek_cell-found.result.at c.seek_cell-found.result.left c.seek_cell-found.ensures c.if-cell-cells.false c.seek_global-global.result.at c.seek_global-global.result.left c.seek_global-global.ensures c.if-p-global_count.false c.if-global-gt0.false
