-- `once::globals::scan_global` meets its contract. Assumes nothing.
use mathlib.Core.Path.{◌∙◌}
use native.Mathlib.Omega.{arith}
use Rattle.once.proofs.Boxed.{row_first, row_held, line_asks, held_other}
use Rattle.first_tests.proofs.Runs.{global_line, global_in, runs_begin, stop_here, stop_inside, stop_small, stop_fits, stop_last, run_scan, runs_next, runs_done}
use Rattle.once.proofs.globals.scan_global.Goals as goal

pub offset_bounds-globals-p : goal.offset_bounds-globals-p
offset_bounds-globals-p c = let h = global_in c.requires.asks in omega arith

pub bounds-globals-p : goal.bounds-globals-p
bounds-globals-p c = global_in c.requires.asks

pub row_of-row-requires : goal.row_of-row-requires
row_of-row-requires c = let h = c.requires in line_asks h.fine (global_line h.asks)

pub loop-q-init : goal.loop-q-init
loop-q-init c = let h = c.requires in let e = c.row_of-row.ensures in row_held e h.fine (omega arith) (runs_begin h.asks (row_first e))

pub offset_bounds-globals-q : goal.offset_bounds-globals-q
offset_bounds-globals-q c = let h = stop_inside c.loop-q.invariant.asks c.loop-q-test.true in omega arith

pub bounds-globals-q : goal.bounds-globals-q
bounds-globals-q c = stop_inside c.loop-q.invariant.asks c.loop-q-test.true

pub scan_lines-hits-requires : goal.scan_lines-hits-requires
scan_lines-hits-requires c =
    let h = c.loop-q.invariant in
    held_other h (run_scan h.asks _ (stop_here h.asks c.loop-q-test.true))

pub overflow_add-k : goal.overflow_add-k
overflow_add-k c = record { fits = stop_fits c.loop-q.invariant.asks c.loop-q-test.true }

pub overflow_add-q : goal.overflow_add-q
overflow_add-q c = record { fits = stop_small c.loop-q.invariant.asks c.loop-q-test.true }

pub loop-q-preserved : goal.loop-q-preserved
loop-q-preserved c =
    let h = c.loop-q.invariant in
    let d = c.scan_lines-hits in
    held_other h (runs_next h.asks _ (stop_here h.asks c.loop-q-test.true) d.ensures c.loop-q-test.true d.auto.first d.auto.second)

pub scan_lines-requires : goal.scan_lines-requires
scan_lines-requires c =
    let h = c.loop-q.invariant in
    held_other h (run_scan h.asks _ (stop_last h.asks c.loop-q-test.false))

pub shape_of-first : goal.shape_of-first
shape_of-first c = c.scan_lines.auto.first ∙ c.loop-q.invariant.asks.first_long

pub shape_of-second : goal.shape_of-second
shape_of-second c = c.scan_lines.auto.second ∙ c.loop-q.invariant.asks.second_long

pub returns : goal.returns
returns c =
    let s = c.loop-q.invariant.asks in
    let l = c.loop-q-test.false in
    runs_done s _ (stop_last s l) c.scan_lines.ensures l
