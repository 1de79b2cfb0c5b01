-- `visit::scan::run_globals` meets its contract. The invariant: what a batch of the globals' tests makes is what was made and what a batch of the rest makes. Assumes nothing.
use native.Mathlib.Omega.{arith}
use Rattle.grid.specs.Domain.{lines}
use Rattle.grid.proofs.Fine.{lines_fine}
use Rattle.visit.proofs.RunTurns.{global_at, globals_run, globals_full, globals_over, global_row_asks, globals_turn, globals_less, globals_small}
use Rattle.visit.proofs.scan.run_globals.Goals as goal

pub overflow_cast-n : goal.overflow_cast-n
overflow_cast-n c =
    let a = c.args in
    omega (arith, (lines_fine (lines a.start_x.now a.start_y.now a.end_x.now a.end_y.now) c.requires.fine).few)

pub loop-hits-init : goal.loop-hits-init
loop-hits-init c = globals_run c.requires

pub settle_global-requires : goal.settle_global-requires
settle_global-requires c = record { table = c.requires.place.table; place = c.loop-hits.invariant.place }

pub scan_global_row-end-requires : goal.scan_global_row-end-requires
scan_global_row-end-requires c = global_row_asks c.requires c.loop-hits.invariant (global_at c.in-Some.is c.settle_global.ensures) c.loop-hits-test.true

pub overflow_sub-tests : goal.overflow_sub-tests
overflow_sub-tests c = c.scan_global_row-end.ensures.in_lines.from

pub overflow_cast-tests : goal.overflow_cast-tests
overflow_cast-tests c = omega (arith, c.scan_global_row-end.ensures.in_lines.to)

pub overflow_add-tests : goal.overflow_add-tests
overflow_add-tests c = record { fits = globals_small c.requires c.loop-hits.invariant (global_at c.in-Some.is c.settle_global.ensures) c.scan_global_row-end.ensures }

pub loop-hits-smaller : goal.loop-hits-smaller
loop-hits-smaller c = globals_less c.requires c.loop-hits.invariant (global_at c.in-Some.is c.settle_global.ensures) c.scan_global_row-end.ensures c.loop-hits-test.true

pub loop-hits-preserved : goal.loop-hits-preserved
loop-hits-preserved c = globals_turn c.requires c.loop-hits.invariant (global_at c.in-Some.is c.settle_global.ensures) c.scan_global_row-end.ensures

pub shape_of-first-after-loop-hits : goal.shape_of-first-after-loop-hits
shape_of-first-after-loop-hits c = c.loop-hits.invariant.moved.first_long

pub shape_of-second-after-loop-hits : goal.shape_of-second-after-loop-hits
shape_of-second-after-loop-hits c = c.loop-hits.invariant.moved.second_long

pub shape_of-places-after-loop-hits : goal.shape_of-places-after-loop-hits
shape_of-places-after-loop-hits c = (c.loop-hits.invariant.placed 0).place_long

pub returns-after-loop-hits : goal.returns-after-loop-hits
returns-after-loop-hits c = globals_full c.requires c.loop-hits.invariant c.loop-hits-test.false

pub shape_of-first-in_default : goal.shape_of-first-in_default
shape_of-first-in_default c = c.loop-hits.invariant.moved.first_long

pub shape_of-second-in_default : goal.shape_of-second-in_default
shape_of-second-in_default c = c.loop-hits.invariant.moved.second_long

pub shape_of-places-in_default : goal.shape_of-places-in_default
shape_of-places-in_default c = (c.loop-hits.invariant.placed 0).place_long

pub returns-in_default : goal.returns-in_default
returns-in_default c = globals_over c.requires c.loop-hits.invariant c.in_default.is c.settle_global.ensures
