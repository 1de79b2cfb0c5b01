-- `crossings::rows::keeps` meets its contract. Assumes nothing.
use Rattle.first_tests.proofs.Passing.{marked_met}
use Rattle.crossings.proofs.RowLaws.{test_far, test_near}
use Rattle.crossings.proofs.rows.keeps.Goals as goal

pub returns-then-common-gt1 : goal.returns-then-common-gt1
returns-then-common-gt1 c h = marked_met c.requires.asks h _ c.if-common-gt1.true

pub returns-then-share_point : goal.returns-then-share_point
returns-then-share_point c h = test_near c.requires h c.line_at-other.ensures c.share_point.ensures c.if-share_point.true c.is_first.ensures

pub returns : goal.returns
returns c h = test_far c.requires h c.line_at-other.ensures c.share_point.ensures c.if-share_point.false
