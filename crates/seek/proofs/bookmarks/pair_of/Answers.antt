-- `seek::bookmarks::pair_of` meets its contract. Assumes nothing.
use mathlib.Core.Path.{◌≡◌}
use Prim.Native.Nat.{◌*◌, ◌+◌, ◌≤◌, ◌<◌}
use native.Mathlib.Omega.{arith}
use lib.ListN.{length, get_or}
use Rattle.seek.proofs.Standing.{has_columns}
use Rattle.seek.proofs.FirstTests.{pair_in, pair_cell, pair_line, pair_over}
use Rattle.seek.proofs.bookmarks.pair_of.Goals as goal

pub overflow_mul-cells : goal.overflow_mul-cells
overflow_mul-cells c =
    let area : c.wide.result * c.wide-2.result ≡ c.args.grid.rows * c.args.grid.cols = rw (c.wide.ensures, c.wide-2.ensures) in
    record { fits = rw area (omega (arith, c.requires.few)) }

pub offset_bounds-offsets-cell : goal.offset_bounds-offsets-cell
offset_bounds-offsets-cell c =
    let area : c.wide.result * c.wide-2.result ≡ c.args.grid.rows * c.args.grid.cols = rw (c.wide.ensures, c.wide-2.ensures) in
    let inside : let a = c.args in a.cursor.cell < a.grid.rows * a.grid.cols = rw area at c.if-cell-cells.true in
    omega (arith, inside, c.requires.table.long, c.well_formed.1.1.0)

pub bounds-offsets-cell : goal.bounds-offsets-cell
bounds-offsets-cell c =
    let area : c.wide.result * c.wide-2.result ≡ c.args.grid.rows * c.args.grid.cols = rw (c.wide.ensures, c.wide-2.ensures) in
    let inside : let a = c.args in a.cursor.cell < a.grid.rows * a.grid.cols = rw area at c.if-cell-cells.true in
    omega (arith, inside, c.requires.table.long)

pub overflow_add-i : goal.overflow_add-i
overflow_add-i c =
    let area : c.wide.result * c.wide-2.result ≡ c.args.grid.rows * c.args.grid.cols = rw (c.wide.ensures, c.wide-2.ensures) in
    let inside : let a = c.args in a.cursor.cell < a.grid.rows * a.grid.cols = rw area at c.if-cell-cells.true in
    let entries : let a = c.args in get_or a.offsets.now a.cursor.cell 0 + a.cursor.j < length a.items.now =
    let a = c.args in
    pair_in (a.grid.rows * a.grid.cols) a.offsets.now a.items.now a.globals.now a.global_count a.cursor c.requires inside in
    omega (arith, c.wide-from.ensures, entries, c.requires.later, c.well_formed.1.1.1.0)

pub overflow_add-j : goal.overflow_add-j
overflow_add-j c =
    let area : c.wide.result * c.wide-2.result ≡ c.args.grid.rows * c.args.grid.cols = rw (c.wide.ensures, c.wide-2.ensures) in
    let inside : let a = c.args in a.cursor.cell < a.grid.rows * a.grid.cols = rw area at c.if-cell-cells.true in
    let entries : let a = c.args in get_or a.offsets.now a.cursor.cell 0 + a.cursor.j < length a.items.now =
    let a = c.args in
    pair_in (a.grid.rows * a.grid.cols) a.offsets.now a.items.now a.globals.now a.global_count a.cursor c.requires inside in
    omega (arith, c.wide-from.ensures, entries, c.well_formed.1.1.1.0)

pub overflow_cast-n : goal.overflow_cast-n
overflow_cast-n c =
    let area : c.wide.result * c.wide-2.result ≡ c.args.grid.rows * c.args.grid.cols = rw (c.wide.ensures, c.wide-2.ensures) in
    let inside : let a = c.args in a.cursor.cell < a.grid.rows * a.grid.cols = rw area at c.if-cell-cells.true in
    omega (arith, inside, c.requires.few)

pub nonzero_div-place : goal.nonzero_div-place
nonzero_div-place c =
    let area : c.wide.result * c.wide-2.result ≡ c.args.grid.rows * c.args.grid.cols = rw (c.wide.ensures, c.wide-2.ensures) in
    let inside : let a = c.args in a.cursor.cell < a.grid.rows * a.grid.cols = rw area at c.if-cell-cells.true in
    let a = c.args in
    omega (arith, has_columns a.grid.rows a.grid.cols (omega (arith, inside)))

pub nonzero_rem-place : goal.nonzero_rem-place
nonzero_rem-place c =
    let area : c.wide.result * c.wide-2.result ≡ c.args.grid.rows * c.args.grid.cols = rw (c.wide.ensures, c.wide-2.ensures) in
    let inside : let a = c.args in a.cursor.cell < a.grid.rows * a.grid.cols = rw area at c.if-cell-cells.true in
    let a = c.args in
    omega (arith, has_columns a.grid.rows a.grid.cols (omega (arith, inside)))

pub offset_bounds-items-i : goal.offset_bounds-items-i
offset_bounds-items-i c =
    let area : c.wide.result * c.wide-2.result ≡ c.args.grid.rows * c.args.grid.cols = rw (c.wide.ensures, c.wide-2.ensures) in
    let inside : let a = c.args in a.cursor.cell < a.grid.rows * a.grid.cols = rw area at c.if-cell-cells.true in
    let entries : let a = c.args in get_or a.offsets.now a.cursor.cell 0 + a.cursor.j < length a.items.now =
    let a = c.args in
    pair_in (a.grid.rows * a.grid.cols) a.offsets.now a.items.now a.globals.now a.global_count a.cursor c.requires inside in
    omega (arith, c.wide-from.ensures, entries, c.requires.later, c.well_formed.1.1.1.0)

pub bounds-items-i : goal.bounds-items-i
bounds-items-i c =
    let area : c.wide.result * c.wide-2.result ≡ c.args.grid.rows * c.args.grid.cols = rw (c.wide.ensures, c.wide-2.ensures) in
    let inside : let a = c.args in a.cursor.cell < a.grid.rows * a.grid.cols = rw area at c.if-cell-cells.true in
    let entries : let a = c.args in get_or a.offsets.now a.cursor.cell 0 + a.cursor.j < length a.items.now =
    let a = c.args in
    pair_in (a.grid.rows * a.grid.cols) a.offsets.now a.items.now a.globals.now a.global_count a.cursor c.requires inside in
    omega (arith, c.wide-from.ensures, entries, c.requires.later)

pub offset_bounds-items-j : goal.offset_bounds-items-j
offset_bounds-items-j c =
    let area : c.wide.result * c.wide-2.result ≡ c.args.grid.rows * c.args.grid.cols = rw (c.wide.ensures, c.wide-2.ensures) in
    let inside : let a = c.args in a.cursor.cell < a.grid.rows * a.grid.cols = rw area at c.if-cell-cells.true in
    let entries : let a = c.args in get_or a.offsets.now a.cursor.cell 0 + a.cursor.j < length a.items.now =
    let a = c.args in
    pair_in (a.grid.rows * a.grid.cols) a.offsets.now a.items.now a.globals.now a.global_count a.cursor c.requires inside in
    omega (arith, c.wide-from.ensures, entries, c.well_formed.1.1.1.0)

pub bounds-items-j : goal.bounds-items-j
bounds-items-j c =
    let area : c.wide.result * c.wide-2.result ≡ c.args.grid.rows * c.args.grid.cols = rw (c.wide.ensures, c.wide-2.ensures) in
    let inside : let a = c.args in a.cursor.cell < a.grid.rows * a.grid.cols = rw area at c.if-cell-cells.true in
    let entries : let a = c.args in get_or a.offsets.now a.cursor.cell 0 + a.cursor.j < length a.items.now =
    let a = c.args in
    pair_in (a.grid.rows * a.grid.cols) a.offsets.now a.items.now a.globals.now a.global_count a.cursor c.requires inside in
    omega (arith, c.wide-from.ensures, entries)

pub returns-then-cell-cells : goal.returns-then-cell-cells
returns-then-cell-cells c =
    let area : c.wide.result * c.wide-2.result ≡ c.args.grid.rows * c.args.grid.cols = rw (c.wide.ensures, c.wide-2.ensures) in
    let inside : let a = c.args in a.cursor.cell < a.grid.rows * a.grid.cols = rw area at c.if-cell-cells.true in
    let a = c.args in
    pair_cell (a.grid.rows * a.grid.cols) a.offsets.now a.items.now a.globals.now a.global_count a.cursor a.grid.cols c.wide-from.result
    inside c.wide-from.ensures

pub returns-then-p-global_count : goal.returns-then-p-global_count
returns-then-p-global_count c =
    let area : c.wide.result * c.wide-2.result ≡ c.args.grid.rows * c.args.grid.cols = rw (c.wide.ensures, c.wide-2.ensures) in
    let past : let a = c.args in a.grid.rows * a.grid.cols ≤ a.cursor.cell = rw area at c.if-cell-cells.false in
    let a = c.args in
    pair_line (a.grid.rows * a.grid.cols) a.offsets.now a.items.now a.globals.now a.global_count a.cursor a.grid.cols past c.if-p-global_count.true

pub returns : goal.returns
returns c =
    let area : c.wide.result * c.wide-2.result ≡ c.args.grid.rows * c.args.grid.cols = rw (c.wide.ensures, c.wide-2.ensures) in
    let past : let a = c.args in a.grid.rows * a.grid.cols ≤ a.cursor.cell = rw area at c.if-cell-cells.false in
    let a = c.args in
    pair_over (a.grid.rows * a.grid.cols) a.offsets.now a.items.now a.globals.now a.global_count a.cursor a.grid.cols past c.if-p-global_count.false
