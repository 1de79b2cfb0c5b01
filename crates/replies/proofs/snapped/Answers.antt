-- `replies::snapped` meets its contract: an `out` that is short, or the answer handed over. Assumes nothing.
use Rattle.replies.proofs.Handing.{short_replies, handed_replies}
use Rattle.replies.proofs.snapped.Goals as goal

pub returns-then-out-lt2 : goal.returns-then-out-lt2
returns-then-out-lt2 c = short_replies 2 _ _ c.if-out-lt2.true

pub returns : goal.returns
returns c = handed_replies 2 c.if-out-lt2.false c.point.ensures
