-- `short_lists::scan_row` meets its contract. Assumes nothing.
use native.Mathlib.Omega.{arith}
use Rattle.short_lists.proofs.Tries.{row_begin, row_done, row_fits, row_yes, row_over}
use Rattle.short_lists.proofs.scan_row.Goals as goal

pub box_in-bounds-requires : goal.box_in-bounds-requires
box_in-bounds-requires c = let a = c.requires in omega (arith, a.inside, a.fits.boxed)

pub bounds-marks-i : goal.bounds-marks-i
bounds-marks-i c = let a = c.requires in omega (arith, a.inside, a.fits.marked)

pub loop-j-init : goal.loop-j-init
loop-j-init c = row_begin c.requires

pub box_in-other-requires : goal.box_in-other-requires
box_in-other-requires c = let a = c.loop-j.invariant.asks.fits in omega (arith, a.boxed)

pub bounds-marks-j : goal.bounds-marks-j
bounds-marks-j c = let a = c.loop-j.invariant.asks.fits in omega (arith, a.marked)

pub overflow_add-hits : goal.overflow_add-hits
overflow_add-hits c = record { fits = row_fits c.loop-j.invariant c.loop-j-test.true }

pub loop-j-preserved-then-keeps : goal.loop-j-preserved-then-keeps
loop-j-preserved-then-keeps c =
    row_yes c.loop-j.invariant c.loop-j-test.true c.box_in-bounds.ensures c.box_in-other.ensures
    c.overlaps_with-near.ensures c.keeps.ensures c.put_pair.ensures.0 c.put_pair.ensures.1 c.if-keeps.true

pub loop-j-preserved : goal.loop-j-preserved
loop-j-preserved c =
    row_over c.loop-j.invariant c.loop-j-test.true c.box_in-bounds.ensures c.box_in-other.ensures
    c.overlaps_with-near.ensures c.keeps.ensures c.put_pair.ensures.0 c.put_pair.ensures.1 c.if-keeps.false

pub shape_of-first : goal.shape_of-first
shape_of-first c = c.loop-j.invariant.first_long

pub shape_of-second : goal.shape_of-second
shape_of-second c = c.loop-j.invariant.second_long

pub returns : goal.returns
returns c = row_done c.loop-j.invariant c.loop-j-test.false
