-- `capi_clean::mt_clean` meets its contract: an `out` that is short, or what the entry answers and leaves. Assumes nothing.
use mathlib.Core.Path.{refl, ap}
use native.Mathlib.Omega.{arith}
use Rattle.replies.proofs.Handing.{short_replies, replied}
use Rattle.capi_clean.specs.Lent.{of_cleaned}
use Rattle.capi_clean.proofs.mt_clean.Goals as goal

pub returns-then-out-lt2 : goal.returns-then-out-lt2
returns-then-out-lt2 c =
    let s = c.if-out-lt2.true in
    record { replies = short_replies 2 _ _ s; called = λ h. absurd (omega (arith, h)); short = λ h. refl }

pub returns : goal.returns
returns c =
    let h = c.if-out-lt2.false in
    let e = c.clean-answer.ensures in
    record {
      replies = replied 2 (ap of_cleaned e.answer) c.kept.ensures;
      called = λ _. record { answer = refl; left = e.left };
      short = λ s. absurd (omega (arith, s));
    }
