-- `replies::owner` meets its contract: each case of the answer is handed over. Assumes nothing.
use mathlib.Core.Path.{sym, ap}
use Rattle.replies.specs.Answers.{of_owner_answer}
use Rattle.replies.proofs.Handing.{short_replies, handed}
use Rattle.replies.proofs.owner.Goals as goal

pub returns-then-out-lt3 : goal.returns-then-out-lt3
returns-then-out-lt3 c = short_replies 3 _ _ c.if-out-lt3.true

pub returns-in-Ok : goal.returns-in-Ok
unfolding of_owner_answer
returns-in-Ok c = handed 3 c.if-out-lt3.false (ap of_owner_answer (sym c.in-Ok.is)) c.whose.ensures

pub returns-in-Err : goal.returns-in-Err
unfolding of_owner_answer
returns-in-Err c = handed 3 c.if-out-lt3.false (ap of_owner_answer (sym c.in-Err.is)) c.refused.ensures
