-- `once::rows::scan_list` meets its contract. Assumes nothing.
use native.Mathlib.Omega.{arith}
use Rattle.once.proofs.Boxed.{held_other}
use Rattle.first_tests.proofs.Scans.{list_done, list_fits}
use Rattle.first_tests.proofs.Passing.{marked_begin, marked_pair, marked_yes, marked_no}
use Rattle.once.proofs.rows.scan_list.Goals as goal

pub loop-j-init : goal.loop-j-init
loop-j-init c = let h = c.requires in held_other h (marked_begin h.asks)

pub bounds-marks-j : goal.bounds-marks-j
bounds-marks-j c = omega (arith, c.loop-j.invariant.asks.asks.long)

pub keeps-requires : goal.keeps-requires
keeps-requires c = let h = c.loop-j.invariant in held_other h (marked_pair h.asks c.loop-j-test.true)

pub overflow_add-hits : goal.overflow_add-hits
overflow_add-hits c = record { fits = list_fits c.loop-j.invariant.asks.list c.loop-j-test.true }

pub loop-j-preserved-then-keeps : goal.loop-j-preserved-then-keeps
loop-j-preserved-then-keeps c = let h = c.loop-j.invariant in held_other h (marked_yes h.asks c.loop-j-test.true c.keeps.ensures c.if-keeps.true c.put_pair.ensures.0 c.put_pair.ensures.1)

pub loop-j-preserved : goal.loop-j-preserved
loop-j-preserved c = let h = c.loop-j.invariant in held_other h (marked_no h.asks c.loop-j-test.true c.keeps.ensures c.if-keeps.false)

pub shape_of-first : goal.shape_of-first
shape_of-first c = c.loop-j.invariant.asks.list.scan.first_long

pub shape_of-second : goal.shape_of-second
shape_of-second c = c.loop-j.invariant.asks.list.scan.second_long

pub returns : goal.returns
returns c = list_done c.loop-j.invariant.asks.list c.loop-j-test.false
