-- `once::globals::scan_globals` meets its contract. Assumes nothing.
use Rattle.first_tests.proofs.Runs.{globals_begin, globals_done, global_asks, globals_next}
use Rattle.once.proofs.globals.scan_globals.Goals as goal

pub loop-p-init : goal.loop-p-init
loop-p-init c = let h = c.requires in record { fine = h.fine; asks = globals_begin h.asks }

pub scan_global-hits-requires : goal.scan_global-hits-requires
scan_global-hits-requires c = let h = c.loop-p.invariant in record { fine = h.fine; asks = global_asks h.asks c.loop-p-test.true }

pub loop-p-preserved : goal.loop-p-preserved
loop-p-preserved c =
    let d = c.scan_global-hits in
    let h = c.loop-p.invariant in
    record { fine = h.fine; asks = globals_next h.asks c.loop-p-test.true d.ensures d.auto.first d.auto.second }

pub shape_of-first : goal.shape_of-first
shape_of-first c = c.loop-p.invariant.asks.first_long

pub shape_of-second : goal.shape_of-second
shape_of-second c = c.loop-p.invariant.asks.second_long

pub returns : goal.returns
returns c = globals_done c.loop-p.invariant.asks c.loop-p-test.false
