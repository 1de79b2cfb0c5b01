-- `once::rows::scan_lines` meets its contract. Assumes nothing.
use Rattle.first_tests.proofs.Passing.{marked_none}
use Rattle.once.proofs.Boxed.{held_other}
use Rattle.first_tests.proofs.Scans.{lines_begin, lines_done, lines_pair, lines_fits, lines_yes, lines_no}
use Rattle.once.proofs.rows.scan_lines.Goals as goal

pub loop-b-init : goal.loop-b-init
loop-b-init c = let h = c.requires in held_other h (lines_begin h.asks)

pub keeps-requires : goal.keeps-requires
keeps-requires c = let h = c.loop-b.invariant in held_other h (marked_none (lines_pair h.asks c.loop-b-test.true) h.most)

pub overflow_add-hits : goal.overflow_add-hits
overflow_add-hits c = record { fits = lines_fits c.loop-b.invariant.asks c.loop-b-test.true }

pub loop-b-preserved-then-keeps : goal.loop-b-preserved-then-keeps
loop-b-preserved-then-keeps c = let h = c.loop-b.invariant in held_other h (lines_yes h.asks c.loop-b-test.true c.keeps.ensures c.if-keeps.true c.put_pair.ensures.0 c.put_pair.ensures.1)

pub loop-b-preserved : goal.loop-b-preserved
loop-b-preserved c = let h = c.loop-b.invariant in held_other h (lines_no h.asks c.loop-b-test.true c.keeps.ensures c.if-keeps.false)

pub shape_of-first : goal.shape_of-first
shape_of-first c = c.loop-b.invariant.asks.scan.first_long

pub shape_of-second : goal.shape_of-second
shape_of-second c = c.loop-b.invariant.asks.scan.second_long

pub returns : goal.returns
returns c = lines_done c.loop-b.invariant.asks c.loop-b-test.false
