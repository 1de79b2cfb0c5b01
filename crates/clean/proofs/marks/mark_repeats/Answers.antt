-- `clean::marks::mark_repeats` meets its contract. The invariant: the points up to i are marked, and `last` is the place of the one kept last.
-- Assumes nothing.
use native.Mathlib.Omega.{arith}
use Rattle.wkb.proofs.Stores.{fill_length}
use Rattle.clean.proofs.Parts.{marking_first, marking_more, marking_all, one_most}
use Rattle.clean.proofs.marks.mark_repeats.Goals as goal

pub loop-i-init : goal.loop-i-init
loop-i-init c = let p = c.requires in marking_first _ _ _ _ _ p.0 p.1 p.2

pub is_same-again-requires : goal.is_same-again-requires
is_same-again-requires c =
    let m = c.loop-i.invariant in
    let p = m.lies in
    (omega (arith, m.before), omega (arith, m.before), omega arith, omega arith)

pub bounds-reasons-i : goal.bounds-reasons-i
bounds-reasons-i c = omega (arith, c.loop-i.invariant.room, fill_length c.loop-i.invariant.filled)

-- one or none more
pub overflow_add-count : goal.overflow_add-count
overflow_add-count c = let u = one_most c.is_same-again.result c.one_unless-count.ensures in omega (arith, c.loop-i.invariant.few)

pub loop-i-preserved : goal.loop-i-preserved
loop-i-preserved c = marking_more c.loop-i.invariant c.loop-i-test.true c.is_same-again.result c.is_same-again.ensures c.reason_of.ensures c.last_of-last.ensures c.one_unless-count.ensures

pub shape_of-reasons : goal.shape_of-reasons
shape_of-reasons c = fill_length c.loop-i.invariant.filled

pub returns : goal.returns
returns c = marking_all c.loop-i.invariant c.loop-i-test.false
