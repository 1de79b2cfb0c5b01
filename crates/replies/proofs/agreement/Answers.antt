-- `replies::agreement` meets its contract: each case of the answer is handed over. Assumes nothing.
use Prim.Native.Nat.{ℕ}
use mathlib.Core.Path.{sym, ap, ◌∙◌}
use mathlib.Core.List.{[], ◌∷◌}
use Rattle.replies.specs.Replies.{success}
use Rattle.replies.specs.Answers.{of_agreement}
use Rattle.replies.proofs.Handing.{short_replies, handed}
use Rattle.replies.proofs.agreement.Goals as goal

pub returns-then-out-lt1 : goal.returns-then-out-lt1
returns-then-out-lt1 c = short_replies 1 _ _ c.if-out-lt1.true

pub returns-in-Ok : goal.returns-in-Ok
unfolding of_agreement
returns-in-Ok c = handed 1 c.if-out-lt1.false (ap (λ (n : ℕ). success (n ∷ [])) c.flag.ensures ∙ ap of_agreement (sym c.in-Ok.is)) c.one.ensures

pub returns-in-Err : goal.returns-in-Err
unfolding of_agreement
returns-in-Err c = handed 1 c.if-out-lt1.false (ap of_agreement (sym c.in-Err.is)) c.refused.ensures
