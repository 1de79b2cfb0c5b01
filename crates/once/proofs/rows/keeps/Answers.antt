-- `once::rows::keeps` meets its contract. Assumes nothing.
use Rattle.first_tests.proofs.Passing.{marked_met}
use Rattle.once.proofs.Boxed.{test_far, test_near}
use Rattle.once.proofs.rows.keeps.Goals as goal

pub returns-then-common-gt1 : goal.returns-then-common-gt1
returns-then-common-gt1 c h = marked_met c.requires.asks h _ c.if-common-gt1.true

pub returns-then-overlaps_with : goal.returns-then-overlaps_with
returns-then-overlaps_with c h = test_near c.requires h c.box_at-other.ensures c.overlaps_with.ensures c.if-overlaps_with.true c.is_first.ensures

pub returns : goal.returns
returns c h = test_far c.requires h c.box_at-other.ensures c.overlaps_with.ensures c.if-overlaps_with.false
