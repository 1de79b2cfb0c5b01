-- `visit::scan::run_cells` meets its contract. The invariant: what a batch of the cells' tests makes is what was made and what a batch of the rest makes. Assumes nothing.
use mathlib.Core.List.{[]}
use Rattle.visit.proofs.RunTurns.{cell_at, cells_run, cells_full, cells_over, cell_row_asks, cells_turn, cells_less, cells_small}
use Rattle.visit.proofs.scan.run_cells.Goals as goal

pub loop-hits-init : goal.loop-hits-init
loop-hits-init c = cells_run c.requires

pub settle_cell-requires : goal.settle_cell-requires
settle_cell-requires c = record { table = c.requires.table; place = c.loop-hits.invariant.place }

pub scan_cell_row-end-requires : goal.scan_cell_row-end-requires
scan_cell_row-end-requires c = cell_row_asks c.requires c.loop-hits.invariant (cell_at c.in-Some.is c.settle_cell.ensures) c.loop-hits-test.true

pub overflow_sub-tests : goal.overflow_sub-tests
overflow_sub-tests c = c.scan_cell_row-end.ensures.in_list.from

pub overflow_add-tests : goal.overflow_add-tests
overflow_add-tests c = record { fits = cells_small c.requires c.loop-hits.invariant (cell_at c.in-Some.is c.settle_cell.ensures) c.scan_cell_row-end.ensures }

pub loop-hits-smaller : goal.loop-hits-smaller
loop-hits-smaller c = cells_less c.requires c.loop-hits.invariant (cell_at c.in-Some.is c.settle_cell.ensures) c.scan_cell_row-end.ensures c.loop-hits-test.true

pub loop-hits-preserved : goal.loop-hits-preserved
loop-hits-preserved c = cells_turn c.requires c.loop-hits.invariant (cell_at c.in-Some.is c.settle_cell.ensures) c.scan_cell_row-end.ensures

pub shape_of-first-after-loop-hits : goal.shape_of-first-after-loop-hits
shape_of-first-after-loop-hits c = (c.loop-hits.invariant.moved []).first_long

pub shape_of-second-after-loop-hits : goal.shape_of-second-after-loop-hits
shape_of-second-after-loop-hits c = (c.loop-hits.invariant.moved []).second_long

pub shape_of-places-after-loop-hits : goal.shape_of-places-after-loop-hits
shape_of-places-after-loop-hits c = (c.loop-hits.invariant.placed []).place_long

pub returns-after-loop-hits : goal.returns-after-loop-hits
returns-after-loop-hits c = cells_full c.requires c.loop-hits.invariant c.loop-hits-test.false

pub shape_of-first-in_default : goal.shape_of-first-in_default
shape_of-first-in_default c = (c.loop-hits.invariant.moved []).first_long

pub shape_of-second-in_default : goal.shape_of-second-in_default
shape_of-second-in_default c = (c.loop-hits.invariant.moved []).second_long

pub shape_of-places-in_default : goal.shape_of-places-in_default
shape_of-places-in_default c = (c.loop-hits.invariant.placed []).place_long

pub returns-in_default : goal.returns-in_default
returns-in_default c = cells_over c.requires c.loop-hits.invariant c.in_default.is c.settle_cell.ensures
