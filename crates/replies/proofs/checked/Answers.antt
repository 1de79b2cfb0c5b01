-- `replies::checked` meets its contract: each case of the answer is handed over. Assumes nothing.
use mathlib.Core.Path.{refl, sym, ap}
use Rattle.replies.specs.Answers.{of_check}
use Rattle.replies.proofs.Handing.{short_replies, handed}
use Rattle.replies.proofs.checked.Goals as goal

pub returns-then-out-lt1 : goal.returns-then-out-lt1
returns-then-out-lt1 c = short_replies 1 _ _ c.if-out-lt1.true

pub returns-in-Ok : goal.returns-in-Ok
unfolding of_check
returns-in-Ok c = handed 1 c.if-out-lt1.false (ap of_check (sym c.in-Ok.is)) (record { number = refl; words = refl })

pub returns-in-Err : goal.returns-in-Err
unfolding of_check
returns-in-Err c = handed 1 c.if-out-lt1.false (ap of_check (sym c.in-Err.is)) c.refused.ensures
