-- `clean::values::put_kept` meets its contract. The invariant: of the first i values, those that are kept stand at the start. Assumes nothing.
use mathlib.Core.Path.{◌∙◌}
use native.Mathlib.Omega.{arith}
use Rattle.wkb.proofs.Stores.{fill_length}
use Rattle.clean.proofs.Parts.{keeping_none, keeping_more, keeping_all, keeping_room}
use Rattle.clean.proofs.values.put_kept.Goals as goal

pub loop-i-init : goal.loop-i-init
loop-i-init c = let p = c.requires in keeping_none _ _ _ p.0 p.1

pub bounds-reasons-i : goal.bounds-reasons-i
bounds-reasons-i c = omega (arith, c.loop-i.invariant.long)

pub put_if-at-requires : goal.put_if-at-requires
put_if-at-requires c = keeping_room c.loop-i.invariant c.loop-i-test.true

pub loop-i-preserved : goal.loop-i-preserved
loop-i-preserved c = keeping_more c.loop-i.invariant c.loop-i-test.true c.put_if-at.ensures.0 c.put_if-at.ensures.1

pub shape_of-kept : goal.shape_of-kept
shape_of-kept c = c.clear_from.auto.s ∙ fill_length c.loop-i.invariant.filled

pub returns : goal.returns
returns c = keeping_all c.loop-i.invariant c.loop-i-test.false c.clear_from.ensures
