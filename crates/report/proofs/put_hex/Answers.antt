-- `report::put_hex` meets its contract. The invariant: the digits from i on stand in the text. Assumes nothing.
use mathlib.Core.Path.{refl, sym}
use native.Mathlib.Omega.{arith}
use lib.ListN.{replicate}
use Rattle.report.proofs.Putting.{puts_text}
use Rattle.report.proofs.Digits.{found16_none, found16_more, found16_all}
use Rattle.report.proofs.put_hex.Goals as goal

pub loop-i-init : goal.loop-i-init
loop-i-init c = found16_none _ (replicate 16 0) refl

pub bounds-text-i : goal.bounds-text-i
bounds-text-i c = let r = c.loop-i.invariant.room in omega arith

pub loop-i-preserved : goal.loop-i-preserved
loop-i-preserved c = found16_more _ _ _ _ _ c.loop-i.invariant c.loop-i-test.true c.glyph.ensures

pub slice_bounds-put_all-end : goal.slice_bounds-put_all-end
slice_bounds-put_all-end c = sym c.loop-i.invariant.long

pub returns : goal.returns
returns c =
    let l = c.loop-i in
    puts_text (found16_all _ _ _ _ l.invariant (omega arith)) c.put_all.ensures
