-- `capi::building::mt_build` meets its contract: an `out` that is short, a number that names no sizing or no mode of walk, or what the entry
-- answers and leaves. Assumes nothing.
use mathlib.Core.Path.{refl, ap, ◌∙◌}
use native.Mathlib.Omega.{arith}
use Rattle.replies.specs.Answers.{of_built}
use Rattle.replies.proofs.Handing.{short_replies, replied}
use Rattle.capi.specs.Unknown.{last_sizing, last_mode}
use Rattle.capi.proofs.Handing.{named_answer, above_replies}
use Rattle.capi.proofs.building.mt_build.Goals as goal

pub returns-then-out-lt8 : goal.returns-then-out-lt8
returns-then-out-lt8 c =
    let s = c.if-out-lt8.true in
    record {
      replies = short_replies 8 _ _ s;
      called = λ h k m. absurd (omega (arith, h));
      short = λ h. (refl, refl, refl, refl);
      unknown = λ h. (refl, refl, refl, refl);
      unwalked = λ h. (refl, refl, refl, refl);
    }

pub returns-then-sizing-gt-LAST_SIZING : goal.returns-then-sizing-gt-LAST_SIZING
returns-then-sizing-gt-LAST_SIZING c =
    let s = c.if-sizing-gt-LAST_SIZING.true in
    record {
      replies = above_replies last_sizing 102 _ 8 _ _ c.if-out-lt8.false s;
      called = λ h k m. absurd (omega (arith, k));
      short = λ h. (refl, refl, refl, refl);
      unknown = λ h. (refl, refl, refl, refl);
      unwalked = λ h. (refl, refl, refl, refl);
    }

pub returns-then-mode-gt-LAST_MODE : goal.returns-then-mode-gt-LAST_MODE
returns-then-mode-gt-LAST_MODE c =
    let s = c.if-mode-gt-LAST_MODE.true in
    record {
      replies = replied 8 (named_answer last_sizing 102 _ _ c.if-sizing-gt-LAST_SIZING.false) (above_replies last_mode 103 _ 8 _ _ c.if-out-lt8.false s);
      called = λ h k m. absurd (omega (arith, m));
      short = λ h. (refl, refl, refl, refl);
      unknown = λ h. (refl, refl, refl, refl);
      unwalked = λ h. (refl, refl, refl, refl);
    }

pub returns : goal.returns
returns c =
    let h = c.if-out-lt8.false in
    let k = c.if-sizing-gt-LAST_SIZING.false in
    let m = c.if-mode-gt-LAST_MODE.false in
    let e = rw c.plan_by.ensures at c.build-answer.ensures in
    record {
      replies = replied 8 (ap of_built e.answer ∙ named_answer last_mode 103 _ _ m ∙ named_answer last_sizing 102 _ _ k) c.built.ensures;
      called = λ _ _ _. record { answer = refl; cell_offsets = e.cell_offsets; cell_items = e.cell_items; global_lines = e.global_lines; scratch_is = e.scratch_is };
      short = λ l. absurd (omega (arith, l));
      unknown = λ l. absurd (omega (arith, l));
      unwalked = λ l. absurd (omega (arith, l));
    }
