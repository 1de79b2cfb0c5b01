-- `visit::scan::scan_cell_row` meets its contract. Assumes nothing.
use mathlib.Core.List.{[]}
use native.Mathlib.Omega.{arith}
use Rattle.visit.proofs.RunTurns.{entry_asks, list_asks, in_cell_row}
use Rattle.visit.proofs.scan.scan_cell_row.Goals as goal

pub slice_bounds-list-count : goal.slice_bounds-list-count
slice_bounds-list-count c = c.requires.rises

pub slice_bounds-list-start : goal.slice_bounds-list-start
slice_bounds-list-start c = c.requires.rises

pub slice_bounds-list-end : goal.slice_bounds-list-end
slice_bounds-list-end c = c.requires.within

pub overflow_cast-number : goal.overflow_cast-number
overflow_cast-number c = omega (arith, c.requires.few)

pub place_of-requires : goal.place_of-requires
place_of-requires c = c.requires.wide

pub bounds-list-i : goal.bounds-list-i
bounds-list-i c = c.requires.one

pub row_of-row-requires : goal.row_of-row-requires
row_of-row-requires c = entry_asks c.requires

pub scan_list-end-requires : goal.scan_list-end-requires
scan_list-end-requires c = list_asks c.requires c.row_of-row.ensures

pub shape_of-first : goal.shape_of-first
shape_of-first c = (c.scan_list-end.ensures.moved []).first_long

pub shape_of-second : goal.shape_of-second
shape_of-second c = (c.scan_list-end.ensures.moved []).second_long

pub shape_of-places : goal.shape_of-places
shape_of-places c = c.put_places.ensures.long

pub returns : goal.returns
returns c = in_cell_row c.requires c.row_of-row.ensures c.place_of.ensures c.scan_list-end.ensures c.put_places.ensures
