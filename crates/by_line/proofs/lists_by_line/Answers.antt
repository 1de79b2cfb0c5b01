-- `by_line::lists_by_line` meets its contract. Assumes nothing.
use Rattle.std.proofs.lemmas.Result.{err_from_is_err_and}
use mathlib.Core.Path.{refl, sym}
use Prim.Native.Nat.{◌*◌}
use native.Mathlib.Omega.{arith}
use Rattle.by_line.proofs.Room.{by_line_room, by_line_tables, by_line_cells, by_line_last, by_line_asks, by_line_made}
use Rattle.by_line.proofs.lists_by_line.Goals as goal

pub returns-in_err-check_room : goal.returns-in_err-check_room
returns-in_err-check_room c =
    let a = c.args in
    let p = err_from_is_err_and c.from_residual.result c.from_residual.ensures.1 in
    rw (p.1, p.2) (by_line_room a.grid a.lines a.offsets.now a.items.now a.globals.now a.global_count a.starts.now a.listing.now _ (sym c.in_err-check_room.ensures))

pub returns-in_err-check_tables : goal.returns-in_err-check_tables
returns-in_err-check_tables c =
    let a = c.args in
    let p = err_from_is_err_and c.from_residual-in_err-check_tables.result c.from_residual-in_err-check_tables.ensures.1 in
    rw (p.1, p.2) (by_line_tables a.grid a.lines a.offsets.now a.items.now a.globals.now a.global_count a.starts.now a.listing.now _ (sym c.in_ok-check_room.ensures) (sym c.in_err-check_tables.ensures))

pub overflow_mul-cells : goal.overflow_mul-cells
overflow_mul-cells c =
    let a = c.args in
    let h = by_line_cells a.grid a.lines a.offsets.now a.items.now a.globals.now a.global_count a.starts.now a.listing.now (sym c.in_ok-check_room.ensures) (sym c.in_ok-check_tables.ensures) in
    omega arith

pub offset_bounds-offsets-cells : goal.offset_bounds-offsets-cells
offset_bounds-offsets-cells c =
    let a = c.args in
    let h = by_line_cells a.grid a.lines a.offsets.now a.items.now a.globals.now a.global_count a.starts.now a.listing.now (sym c.in_ok-check_room.ensures) (sym c.in_ok-check_tables.ensures) in
    omega arith

pub bounds-offsets-cells : goal.bounds-offsets-cells
bounds-offsets-cells c =
    let a = c.args in
    by_line_last a.grid a.lines a.offsets.now a.items.now a.globals.now a.global_count a.starts.now a.listing.now (sym c.in_ok-check_room.ensures) (sym c.in_ok-check_tables.ensures)

pub make-requires : goal.make-requires
make-requires c =
    let a = c.args in
    let k = c.shared_slice_known-4-1.given (a.grid.rows * a.grid.cols) in
    by_line_asks a.grid a.lines a.offsets.now a.items.now a.globals.now a.global_count a.starts.now a.listing.now (sym c.in_ok-check_room.ensures) (sym c.in_ok-check_tables.ensures) (omega arith)

pub overflow_cast-result : goal.overflow_cast-result
overflow_cast-result c =
    let a = c.args in
    let k = c.shared_slice_known-4-1.given (a.grid.rows * a.grid.cols) in
    omega arith

pub returns : goal.returns
returns c =
    let a = c.args in
    by_line_made a.grid a.lines a.offsets.now a.items.now a.globals.now a.global_count a.starts.now a.listing.now (sym c.in_ok-check_room.ensures) (sym c.in_ok-check_tables.ensures) refl c.make.ensures
