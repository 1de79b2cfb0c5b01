-- `replies::read` meets its contract: each case of the answer is handed over. Assumes nothing.
use mathlib.Core.Path.{sym, ap}
use Rattle.replies.specs.Answers.{of_read}
use Rattle.replies.proofs.Handing.{short_replies, handed}
use Rattle.replies.proofs.read.Goals as goal

pub returns-then-out-lt1 : goal.returns-then-out-lt1
returns-then-out-lt1 c = short_replies 1 _ _ c.if-out-lt1.true

pub returns-in-Ok : goal.returns-in-Ok
unfolding of_read
returns-in-Ok c = handed 1 c.if-out-lt1.false (ap of_read (sym c.in-Ok.is)) c.one.ensures

pub returns-in-Err : goal.returns-in-Err
unfolding of_read
returns-in-Err c = handed 1 c.if-out-lt1.false (ap of_read (sym c.in-Err.is)) c.refused.ensures
