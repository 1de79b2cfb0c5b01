-- `capi_window::mt_window` meets its contract: an `out` that is short, words that are too few, or what the entry answers and leaves. Assumes nothing.
use mathlib.Core.Path.{◌≡◌, refl, ap, ◌∙◌}
use native.Mathlib.Omega.{arith}
use Prim.Native.Nat.{ℕ}
use Rattle.std.specs.Prelude.{Ok, Err, Result}
use Rattle.refusals.specs.declared.Refusal.{Refusal}
use Rattle.replies.specs.Answers.{of_cells}
use Rattle.replies.proofs.Handing.{short_replies}
use Rattle.capi.proofs.Handing.{few_replies, asked}
use Rattle.capi_window.specs.Lent.{of_listing}
use Rattle.capi_window.proofs.mt_window.Goals as goal

-- lines are answered as cells are: how many, or the refusal
lines_as_cells : (a : Result ℕ Refusal) → of_cells a ≡ of_listing a
unfolding of_cells of_listing
lines_as_cells (Ok n) = refl
lines_as_cells (Err r) = refl

pub returns-then-out-lt1 : goal.returns-then-out-lt1
returns-then-out-lt1 c =
    let s = c.if-out-lt1.true in
    record { replies = short_replies 1 _ _ s; called = λ h k. absurd (omega (arith, h)); short = λ h. refl; few = λ h. refl }

pub returns-then-grid-lt-WORDS : goal.returns-then-grid-lt-WORDS
returns-then-grid-lt-WORDS c =
    let s = c.if-grid-lt-WORDS.true in
    record { replies = few_replies 1 _ _ _ c.if-out-lt1.false s; called = λ h k. absurd (omega (arith, k)); short = λ h. refl; few = λ h. refl }

pub returns : goal.returns
returns c =
    let h = c.if-out-lt1.false in
    let k = c.if-grid-lt-WORDS.false in
    let e = c.lines_in.ensures in
    rw (← c.grid_by.ensures)
    (record {
      replies = asked 1 _ k (lines_as_cells _ ∙ ap of_listing e.answer) c.cells.ensures;
      called = λ _ _. record { answer = refl; left = e.left };
      short = λ s. absurd (omega (arith, s));
      few = λ s. absurd (omega (arith, s));
    })
