-- The reader's promise from its parts: after a refusal, and after points were read. Assumes nothing.
use Rattle.std.specs.Prelude.{Ok, Err}
use mathlib.Core.Path.{◌≡◌, refl, sym, ◌∙◌}
use mathlib.Core.Bool.{false, ◌&&◌}
use mathlib.Core.List.{List, map}
use Prim.Native.Nat.{ℕ, ◌+◌, ◌*◌, ◌≤◌, ◌<◌}
use lib.Dec.{leb, eqb}
use lib.Ieee.{Float, binary64, of_bits}
use lib.ListN.{length}
use borrow.Author.Tests.{leb-true, eqb-true}
use Rattle.refusals.specs.declared.Refusal.{Refusal}
use Rattle.refusals.specs.Refusals.{refusal, refused, gives, answer_by, clears, left_in, zero_beyond}
use Rattle.refusals.proofs.Checks.{unless_fine}
use Rattle.refusals.proofs.Answers.{then_refused, then_fine}
use Rattle.refusals.proofs.Leaving.{left_same, clearing_unless}
use Rattle.grid.proofs.Bools.{and_says}
use Rattle.wkb.specs.Bytes.{points_at}
use Rattle.wkb.specs.Reading.{line_at, end_at, line_check, found, slices_check, outcome, read_of, points_left, nought, ReadAs}
use Rattle.wkb.specs.Inside.{numbers_at, LineAt}
use Rattle.wkb.specs.declared.Order.{Order}
use Rattle.wkb.proofs.Words.{Small}
use Rattle.wkb.proofs.Axes.{length_points, axis_x, axis_y}
use Rattle.wkb.proofs.Fields.{end_right, end_more}
use Rattle.wkb.proofs.LineStrings.{sound, complete}

-- ---- refusal 3 comes first

-- slices that pass it have one length, and room
pub slices_fine : (m n : ℕ) → slices_check m n ≡ (Ok tt) → (m ≡ n) × (1024 ≤ m)
unfolding slices_check
slices_fine m n h =
    let a = and_says (eqb m n) (leb 1024 m) (unless_fine _ _ _ h) in
    (eqb-true m n a.0, leb-true 1024 m a.1)

-- ---- what the look at the fields found

module _ (bs : List ℕ) where
  pub found_fault : (at : ℕ) → line_check 0 bs ≡ Err (refusal 11 at) → found bs ≡ refused (refusal 11 at)
  unfolding found
  found_fault at e = then_refused _ _ _ e

  module _ (o : Order) (n : ℕ) (l : LineAt bs 0 o n) where
    pub found_more : 9 + 16 * n < length bs → found bs ≡ refused (refusal 11 (9 + 16 * n))
    unfolding found end_at
    found_more h = then_fine _ _ l.fine ∙ rw (← l.count) (then_refused _ _ _ (end_more (9 + 16 * n) bs h))

    pub found_line : length bs ≤ 9 + 16 * n → found bs ≡ gives (points_at o n 9 bs)
    unfolding found end_at line_at
    found_line h =
        then_fine _ _ l.fine ∙ rw (← l.count, ← l.order) (then_fine _ _ (end_right (9 + 16 * n) bs h))

-- ---- the promise

module _ (bs : List ℕ) (x₀ y₀ : List Float) (small : Small bs) where
  -- a refusal that is none of 4 to 7
  none : (r : Refusal) → outcome (length x₀) (length y₀) bs ≡ refused r → clears r.number ≡ false → ReadAs bs x₀ y₀ (Err r) x₀ y₀
  unfolding read_of points_left answer_by left_in
  none r e k = record {
    answer = rw e;
    in_x = rw e (sym (left_same nought r x₀ k));
    in_y = rw e (sym (left_same nought r y₀ k));
    only = λ ps. sound bs ps small;
    every = complete bs;
  }

  pub read_lent : (r : Refusal) → slices_check (length x₀) (length y₀) ≡ Err r → ReadAs bs x₀ y₀ (Err r) x₀ y₀
  unfolding outcome slices_check clears
  read_lent r e = none r (then_refused _ _ r e) ((clearing_unless (eqb (length x₀) (length y₀) && leb 1024 (length x₀)) 3 0 refl).says r e)

  module _ (h : slices_check (length x₀) (length y₀) ≡ (Ok tt)) where
    finds : outcome (length x₀) (length y₀) bs ≡ found bs
    unfolding outcome
    finds = then_fine _ _ h

    pub read_none : (at : ℕ) → found bs ≡ refused (refusal 11 at) → ReadAs bs x₀ y₀ (Err (refusal 11 at)) x₀ y₀
    unfolding clears
    read_none at e = none (refusal 11 at) (finds ∙ e) refl

    pub read_all : {x₁ y₁ : List Float} (o : Order) (n : ℕ) → found bs ≡ gives (points_at o n 9 bs) → x₁ ≡ zero_beyond nought (length x₀) (map (of_bits binary64) (numbers_at o n 9 bs)) → y₁ ≡ zero_beyond nought (length y₀) (map (of_bits binary64) (numbers_at o n 17 bs)) → ReadAs bs x₀ y₀ (Ok n) x₁ y₁
    unfolding read_of points_left answer_by left_in
    read_all o n l p q =
        let e : outcome (length x₀) (length y₀) bs ≡ gives (points_at o n 9 bs) = finds ∙ l in
        record {
          answer = rw (e, length_points o bs n 9);
          in_x = rw (e, axis_x o bs (of_bits binary64) n 9) p;
          in_y = rw (e, axis_y o bs (of_bits binary64) n 9) q;
          only = λ ps. sound bs ps small;
          every = complete bs;
        }
