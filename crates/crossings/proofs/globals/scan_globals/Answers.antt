-- `crossings::globals::scan_globals` meets its contract. Assumes nothing.
use Rattle.first_tests.proofs.Runs.{globals_begin, globals_done, global_asks, globals_next}
use Rattle.crossings.proofs.globals.scan_globals.Goals as goal

pub loop-p-init : goal.loop-p-init
loop-p-init c = let h = c.requires in globals_begin (h)

pub scan_global-hits-requires : goal.scan_global-hits-requires
scan_global-hits-requires c = let h = c.loop-p.invariant in global_asks (h) c.loop-p-test.true

pub loop-p-preserved : goal.loop-p-preserved
loop-p-preserved c =
    let d = c.scan_global-hits in
    let h = c.loop-p.invariant in
    globals_next (h) c.loop-p-test.true d.ensures d.auto.first d.auto.second

pub shape_of-first : goal.shape_of-first
shape_of-first c = c.loop-p.invariant.first_long

pub shape_of-second : goal.shape_of-second
shape_of-second c = c.loop-p.invariant.second_long

pub returns : goal.returns
returns c = globals_done c.loop-p.invariant c.loop-p-test.false
