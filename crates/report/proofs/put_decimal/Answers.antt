-- `report::put_decimal` meets its contract. The invariant: the digits from i on stand in the text. Assumes nothing.
use mathlib.Core.Path.{refl}
use native.Mathlib.Omega.{arith}
use lib.ListN.{replicate}
use Rattle.report.proofs.Putting.{puts_text}
use Rattle.report.proofs.Digits.{found10_one, found10_room, found10_more, found10_all}
use Rattle.report.proofs.put_decimal.Goals as goal

pub loop-rest-init : goal.loop-rest-init
loop-rest-init c = found10_one c.args.n (replicate 20 0) c.glyph.result c.ranges.n.fits refl c.glyph.ensures

pub overflow_sub-i : goal.overflow_sub-i
overflow_sub-i c = found10_room _ _ _ _ c.loop-rest.invariant c.loop-rest-test.true

pub bounds-text-i : goal.bounds-text-i
bounds-text-i c = let r = c.loop-rest.invariant.room in omega arith

pub loop-rest-smaller : goal.loop-rest-smaller
loop-rest-smaller c = let r = found10_room _ _ _ _ c.loop-rest.invariant c.loop-rest-test.true in omega arith

pub loop-rest-preserved : goal.loop-rest-preserved
loop-rest-preserved c = found10_more _ _ _ _ _ c.loop-rest.invariant c.loop-rest-test.true c.glyph-in-loop-rest.ensures

pub slice_bounds-put_all-count : goal.slice_bounds-put_all-count
slice_bounds-put_all-count c = let r = c.loop-rest.invariant.room in omega arith

pub slice_bounds-put_all-start : goal.slice_bounds-put_all-start
slice_bounds-put_all-start c = let r = c.loop-rest.invariant.room in omega arith

pub slice_bounds-put_all-end : goal.slice_bounds-put_all-end
slice_bounds-put_all-end c = let r = c.loop-rest.invariant.long in omega arith

pub returns : goal.returns
returns c =
    let l = c.loop-rest in
    puts_text (found10_all _ _ _ _ l.invariant (omega arith)) c.put_all.ensures
