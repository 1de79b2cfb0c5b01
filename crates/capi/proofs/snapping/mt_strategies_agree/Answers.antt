-- `capi::snapping::mt_strategies_agree` meets its contract: an `out` that is short, or the entry's answer handed over. Assumes nothing.
use mathlib.Core.Path.{ap}
use Rattle.replies.specs.Answers.{of_agreement}
use Rattle.replies.proofs.Handing.{short_replies, replied}
use Rattle.capi.proofs.snapping.mt_strategies_agree.Goals as goal

pub returns-then-out-lt1 : goal.returns-then-out-lt1
returns-then-out-lt1 c = short_replies 1 _ _ c.if-out-lt1.true

pub returns : goal.returns
returns c = replied 1 (ap of_agreement c.strategies_agree.ensures) c.agreement.ensures
