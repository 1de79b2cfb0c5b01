-- `capi_members::reading::mt_read_multi_line_string` meets its contract: an `out` that is short, or what the entry answers and leaves. Assumes nothing.
use mathlib.Core.Path.{refl, ap}
use native.Mathlib.Omega.{arith}
use Rattle.replies.proofs.Handing.{short_replies, replied}
use Rattle.capi_members.specs.Answers.{of_multi_read}
use Rattle.capi_members.proofs.reading.mt_read_multi_line_string.Goals as goal

pub returns-then-out-lt2 : goal.returns-then-out-lt2
returns-then-out-lt2 c =
    let s = c.if-out-lt2.true in
    record { replies = short_replies 2 _ _ s; called = λ h. absurd (omega (arith, h)); short = λ h. (refl, refl, refl) }

pub returns : goal.returns
returns c =
    let h = c.if-out-lt2.false in
    let e = c.read_multi_line_string.ensures in
    record {
      replies = replied 2 (ap of_multi_read e.answer) c.multi_read.ensures;
      called = λ _. record { answer = refl; in_x = e.in_x; in_y = e.in_y; in_lengths = e.in_lengths; only = e.only; every = e.every };
      short = λ s. absurd (omega (arith, s));
    }
