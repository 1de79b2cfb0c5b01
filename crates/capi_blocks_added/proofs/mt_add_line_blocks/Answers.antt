-- `capi_blocks_added::mt_add_line_blocks` meets its contract: an `out` that is short, words that are too few, a number that names no mode of walk, or what the entry answers and
-- leaves. Assumes nothing.
use mathlib.Core.Path.{refl, ap, ◌∙◌}
use native.Mathlib.Omega.{arith}
use Rattle.replies.proofs.Handing.{short_replies}
use Rattle.capi.specs.Unknown.{last_mode}
use Rattle.capi.proofs.Handing.{few_replies, asked, named_answer, above_replies}
use Rattle.capi_added.specs.Lent.{of_added}
use Rattle.capi_blocks_added.proofs.mt_add_line_blocks.Goals as goal

pub returns-then-out-lt3 : goal.returns-then-out-lt3
returns-then-out-lt3 c =
    let s = c.if-out-lt3.true in
    record { replies = short_replies 3 _ _ s; called = λ h k m. absurd (omega (arith, h)); short = λ h. record { offsets = refl; items = refl; globals = refl; summary_is = refl; scratch_is = refl }; few = λ h. record { offsets = refl; items = refl; globals = refl; summary_is = refl; scratch_is = refl }; unwalked = λ h. record { offsets = refl; items = refl; globals = refl; summary_is = refl; scratch_is = refl } }

pub returns-then-grid-lt-WORDS : goal.returns-then-grid-lt-WORDS
returns-then-grid-lt-WORDS c =
    let s = c.if-grid-lt-WORDS.true in
    record { replies = few_replies 3 _ _ _ c.if-out-lt3.false s; called = λ h k m. absurd (omega (arith, k)); short = λ h. record { offsets = refl; items = refl; globals = refl; summary_is = refl; scratch_is = refl }; few = λ h. record { offsets = refl; items = refl; globals = refl; summary_is = refl; scratch_is = refl }; unwalked = λ h. record { offsets = refl; items = refl; globals = refl; summary_is = refl; scratch_is = refl } }

pub returns-then-mode-gt-LAST_MODE : goal.returns-then-mode-gt-LAST_MODE
returns-then-mode-gt-LAST_MODE c =
    let s = c.if-mode-gt-LAST_MODE.true in
    record {
      replies = asked 3 _ c.if-grid-lt-WORDS.false refl (above_replies last_mode 103 _ 3 _ _ c.if-out-lt3.false s);
      called = λ h k m. absurd (omega (arith, m));
      short = λ h. record { offsets = refl; items = refl; globals = refl; summary_is = refl; scratch_is = refl };
      few = λ h. record { offsets = refl; items = refl; globals = refl; summary_is = refl; scratch_is = refl };
      unwalked = λ h. record { offsets = refl; items = refl; globals = refl; summary_is = refl; scratch_is = refl };
    }

pub returns : goal.returns
returns c =
    let h = c.if-out-lt3.false in
    let k = c.if-grid-lt-WORDS.false in
    let m = c.if-mode-gt-LAST_MODE.false in
    let e = rw (c.mode_by.ensures, c.grid_by.ensures) at c.add_line-answer.ensures in
    record {
      replies = asked 3 _ k (ap of_added e.tables_are.answer ∙ named_answer last_mode 103 _ _ m) c.added_line.ensures;
      called = λ _ _ _. record {
        tables_are = record { answer = refl; offsets_are = e.tables_are.offsets_are; items_are = e.tables_are.items_are; globals_are = e.tables_are.globals_are; scratch_is = e.tables_are.scratch_is };
        summary_is = e.summary_is;
      };
      short = λ s. absurd (omega (arith, s));
      few = λ s. absurd (omega (arith, s));
      unwalked = λ s. absurd (omega (arith, s));
    }
