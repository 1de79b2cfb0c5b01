-- `by_line::marks::mark_list` meets its contract. Assumes nothing.
use native.Mathlib.Omega.{arith}
use Rattle.by_line.proofs.Shared.{listing_none, listing_begin, listing_over, listing_more}
use Rattle.by_line.proofs.marks.mark_list.Goals as goal

pub returns-then-marks-list : goal.returns-then-marks-list
returns-then-marks-list c = listing_none c.if-marks-list.true

pub loop-j-init : goal.loop-j-init
loop-j-init c = listing_begin c.if-marks-list.false

pub bounds-marks-j : goal.bounds-marks-j
bounds-marks-j c = let l = c.loop-j.invariant in omega (arith, l.long, l.room)

pub loop-j-preserved : goal.loop-j-preserved
loop-j-preserved c = listing_more c.loop-j.invariant c.loop-j-test.true c.mark.ensures

pub shape_of-marks : goal.shape_of-marks
shape_of-marks c = c.loop-j.invariant.long

pub returns : goal.returns
returns c =
    listing_over c.loop-j.invariant c.loop-j-test.false c.back-before.ensures (omega (arith, c.back-low.ensures, c.back.ensures))
