-- `capi_counts::counting::mt_add` meets its contract: an `out` that is short, or what the entry answers and leaves. Assumes nothing.
use mathlib.Core.Path.{refl, ap}
use native.Mathlib.Omega.{arith}
use Rattle.replies.specs.Answers.{of_check}
use Rattle.replies.proofs.Handing.{short_replies, replied}
use Rattle.capi_counts.proofs.counting.mt_add.Goals as goal

pub returns-then-out-lt1 : goal.returns-then-out-lt1
returns-then-out-lt1 c = let s = c.if-out-lt1.true in record { replies = short_replies 1 _ _ s; called = λ h. absurd (omega (arith, h)); short = λ h. refl }

pub returns : goal.returns
returns c =
    let h = c.if-out-lt1.false in
    let e = c.add-answer.ensures in
    record { replies = replied 1 (ap of_check e.answer) c.checked.ensures; called = λ _. record { answer = refl; table = e.table }; short = λ s. absurd (omega (arith, s)) }
