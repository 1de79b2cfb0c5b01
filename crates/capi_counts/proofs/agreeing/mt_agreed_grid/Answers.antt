-- `capi_counts::agreeing::mt_agreed_grid` meets its contract: an `out` that is short, a number that names no
-- sizing, or what the entry answers. Assumes nothing.
use mathlib.Core.Path.{ap, ◌∙◌}
use Rattle.replies.proofs.Handing.{short_replies, replied}
use Rattle.capi.specs.Unknown.{last_sizing}
use Rattle.capi.proofs.Handing.{named_answer, above_replies}
use Rattle.capi_counts.specs.Answers.{of_grid_answer}
use Rattle.capi_counts.proofs.agreeing.mt_agreed_grid.Goals as goal

pub returns-then-out-lt6 : goal.returns-then-out-lt6
returns-then-out-lt6 c = short_replies 6 _ _ c.if-out-lt6.true

pub returns-then-sizing-gt-LAST_SIZING : goal.returns-then-sizing-gt-LAST_SIZING
returns-then-sizing-gt-LAST_SIZING c = above_replies last_sizing 102 _ 6 _ _ c.if-out-lt6.false c.if-sizing-gt-LAST_SIZING.true

pub returns : goal.returns
returns c =
    let e = rw c.sizing_by.ensures at c.agreed_grid-answer.ensures in
    replied 6 (ap of_grid_answer e ∙ named_answer last_sizing 102 _ _ c.if-sizing-gt-LAST_SIZING.false) c.agreed.ensures
