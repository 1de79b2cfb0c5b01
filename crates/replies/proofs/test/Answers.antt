-- `replies::test` meets its contract: each case of the answer is handed over. Assumes nothing.
use Rattle.std.specs.Prelude.{Ok, Some, None, Result, Option}
use mathlib.Core.Path.{◌≡◌, sym, ap, ◌∙◌}
use Rattle.refusals.specs.declared.Refusal.{Refusal}
use Rattle.visit.specs.declared.Test.{Test}
use Rattle.replies.specs.Answers.{of_place, of_test}
use Rattle.replies.proofs.Handing.{short_replies, handed}
use Rattle.replies.proofs.test.Goals as goal

answer_is : {a : Result (Option Test) Refusal} {inner known : Option Test} → a ≡ Ok inner → inner ≡ known → Ok known ≡ a
answer_is e f = cc

pub returns-then-out-lt6 : goal.returns-then-out-lt6
returns-then-out-lt6 c = short_replies 6 _ _ c.if-out-lt6.true

pub returns-in-Ok-Some : goal.returns-in-Ok-Some
unfolding of_test
returns-in-Ok-Some c =
    let f : c.in-Ok-Some.field-0 ≡ Some c.in-Ok-Some.t = rw c.in-Ok-Some.is at c.in-Ok-Some.field-0-is in
    handed 6 c.if-out-lt6.false (ap (of_place _ _ _) c.flag.ensures ∙ ap of_test (answer_is c.in-Ok-Some.is f)) c.made.ensures

pub returns-in-Ok-None : goal.returns-in-Ok-None
unfolding of_test
returns-in-Ok-None c =
    let f : c.in-Ok-None.field-0 ≡ None = rw c.in-Ok-None.is at c.in-Ok-None.field-0-is in
    handed 6 c.if-out-lt6.false (ap of_test (answer_is c.in-Ok-None.is f)) c.six.ensures

pub returns-in-Err : goal.returns-in-Err
unfolding of_test
returns-in-Err c = handed 6 c.if-out-lt6.false (ap of_test (sym c.in-Err.is)) c.refused.ensures
