-- `capi_counts::counting::mt_tables_on` meets its contract: an `out` that is short, words that are too few, a number that
-- names no mode of walk, or what the entry answers and leaves. Assumes nothing.
use mathlib.Core.Path.{refl, ap, ◌∙◌}
use native.Mathlib.Omega.{arith}
use Rattle.replies.proofs.Handing.{short_replies}
use Rattle.capi.specs.Unknown.{last_mode}
use Rattle.capi.proofs.Handing.{few_replies, asked, named_answer, above_replies}
use Rattle.capi_counts.specs.Answers.{of_tabled}
use Rattle.capi_counts.proofs.counting.mt_tables_on.Goals as goal

pub returns-then-out-lt2 : goal.returns-then-out-lt2
returns-then-out-lt2 c =
    let s = c.if-out-lt2.true in
    record { replies = short_replies 2 _ _ s; called = λ h k m. absurd (omega (arith, h)); short = λ h. (refl, refl, refl, refl); few = λ h. (refl, refl, refl, refl); unwalked = λ h. (refl, refl, refl, refl) }

pub returns-then-grid-lt-WORDS : goal.returns-then-grid-lt-WORDS
returns-then-grid-lt-WORDS c =
    let s = c.if-grid-lt-WORDS.true in
    record { replies = few_replies 2 _ _ _ c.if-out-lt2.false s; called = λ h k m. absurd (omega (arith, k)); short = λ h. (refl, refl, refl, refl); few = λ h. (refl, refl, refl, refl); unwalked = λ h. (refl, refl, refl, refl) }

pub returns-then-mode-gt-LAST_MODE : goal.returns-then-mode-gt-LAST_MODE
returns-then-mode-gt-LAST_MODE c =
    let s = c.if-mode-gt-LAST_MODE.true in
    record {
      replies = asked 2 _ c.if-grid-lt-WORDS.false refl (above_replies last_mode 103 _ 2 _ _ c.if-out-lt2.false s);
      called = λ h k m. absurd (omega (arith, m));
      short = λ h. (refl, refl, refl, refl);
      few = λ h. (refl, refl, refl, refl);
      unwalked = λ h. (refl, refl, refl, refl);
    }

pub returns : goal.returns
returns c =
    let h = c.if-out-lt2.false in
    let k = c.if-grid-lt-WORDS.false in
    let m = c.if-mode-gt-LAST_MODE.false in
    let e = rw (c.mode_by.ensures, c.grid_by.ensures) at c.tables_on-answer.ensures in
    record {
      replies = asked 2 _ k (ap of_tabled e.answer ∙ named_answer last_mode 103 _ _ m) c.tabled.ensures;
      called = λ _ _ _. record { answer = refl; offsets_are = e.offsets_are; items_are = e.items_are; globals_are = e.globals_are; scratch_is = e.scratch_is };
      short = λ s. absurd (omega (arith, s));
      few = λ s. absurd (omega (arith, s));
      unwalked = λ s. absurd (omega (arith, s));
    }
