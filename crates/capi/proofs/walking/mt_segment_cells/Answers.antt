-- `capi::walking::mt_segment_cells` meets its contract: an `out` that is short, words that are too few, a number that names no mode of
-- walk, or what the entry answers and leaves. Assumes nothing.
use mathlib.Core.Path.{refl, ap, ◌∙◌}
use native.Mathlib.Omega.{arith}
use Rattle.replies.specs.Answers.{of_cells}
use Rattle.replies.proofs.Handing.{short_replies}
use Rattle.capi.specs.Unknown.{last_mode}
use Rattle.capi.proofs.Handing.{few_replies, asked, named_answer, above_replies}
use Rattle.capi.proofs.walking.mt_segment_cells.Goals as goal

pub returns-then-out-lt1 : goal.returns-then-out-lt1
returns-then-out-lt1 c =
    let s = c.if-out-lt1.true in
    record { replies = short_replies 1 _ _ s; called = λ h k m. absurd (omega (arith, h)); short = λ h. refl; few = λ h. refl; unwalked = λ h. refl }

pub returns-then-grid-lt-WORDS : goal.returns-then-grid-lt-WORDS
returns-then-grid-lt-WORDS c =
    let s = c.if-grid-lt-WORDS.true in
    record { replies = few_replies 1 _ _ _ c.if-out-lt1.false s; called = λ h k m. absurd (omega (arith, k)); short = λ h. refl; few = λ h. refl; unwalked = λ h. refl }

pub returns-then-mode-gt-LAST_MODE : goal.returns-then-mode-gt-LAST_MODE
returns-then-mode-gt-LAST_MODE c =
    let s = c.if-mode-gt-LAST_MODE.true in
    record {
      replies = asked 1 _ c.if-grid-lt-WORDS.false refl (above_replies last_mode 103 _ 1 _ _ c.if-out-lt1.false s);
      called = λ h k m. absurd (omega (arith, m));
      short = λ h. refl;
      few = λ h. refl;
      unwalked = λ h. refl;
    }

pub returns : goal.returns
returns c =
    let h = c.if-out-lt1.false in
    let k = c.if-grid-lt-WORDS.false in
    let m = c.if-mode-gt-LAST_MODE.false in
    let e = c.cells_of_segment.ensures in
    rw (← c.mode_by.ensures, ← c.grid_by.ensures)
    (record {
      replies = asked 1 _ k (ap of_cells e.answer ∙ named_answer last_mode 103 _ _ m) c.cells.ensures;
      called = λ _ _ _. record { answer = refl; left = e.left };
      short = λ s. absurd (omega (arith, s));
      few = λ s. absurd (omega (arith, s));
      unwalked = λ s. absurd (omega (arith, s));
    })
