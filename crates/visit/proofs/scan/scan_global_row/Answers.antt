-- `visit::scan::scan_global_row` meets its contract. Assumes nothing.
use mathlib.Core.List.{[]}
use native.Mathlib.Omega.{arith}
use Rattle.visit.proofs.RunTurns.{lines_asks, in_global_row}
use Rattle.visit.proofs.scan.scan_global_row.Goals as goal

pub bounds-globals-p : goal.bounds-globals-p
bounds-globals-p c = c.requires.one

pub row_of-row-requires : goal.row_of-row-requires
row_of-row-requires c = c.requires.line

pub scan_lines-end-requires : goal.scan_lines-end-requires
scan_lines-end-requires c = lines_asks c.requires c.row_of-row.ensures

pub overflow_add-cells : goal.overflow_add-cells
overflow_add-cells c = omega (arith, c.requires.few)

pub overflow_cast-cells : goal.overflow_cast-cells
overflow_cast-cells c = omega (arith, c.requires.few)

pub shape_of-first : goal.shape_of-first
shape_of-first c = (c.scan_lines-end.ensures.moved []).first_long

pub shape_of-second : goal.shape_of-second
shape_of-second c = (c.scan_lines-end.ensures.moved []).second_long

pub shape_of-places : goal.shape_of-places
shape_of-places c = c.put_places.ensures.long

pub returns : goal.returns
returns c = in_global_row c.requires c.row_of-row.ensures c.scan_lines-end.ensures c.put_places.ensures
