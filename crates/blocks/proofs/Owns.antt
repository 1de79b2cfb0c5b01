-- Whether a summary is that of some offsets: tests one after another, and what they come to. Assumes nothing.
use mathlib.Core.Path.{◌≡◌, refl, sym, ap, ◌∙◌}
use mathlib.Core.Bool.{Bool, true, false, true≢false}
use mathlib.Core.List.{List}
use Prim.Native.Nat.{ℕ, suc, ◌+◌, ◌*◌, ◌≤◌, ◌<◌}
use native.Mathlib.Numerals.{add-one}
use native.Mathlib.Omega.{arith}
use borrow.Author.Tests.{le-leb, lt-leb, leb-true, eqb-true, eq-eqb}
use lib.Dec.{leb, eqb}
use lib.ListN.{length, get_or, replicate, length-replicate}
use Rattle.grid.specs.declared.Grid.{Grid}
use Rattle.grid.specs.Domain.{fit}
use Rattle.grid.proofs.Bools.{and_left, and_right, and_both}
use Rattle.grid.proofs.Shapes.{fit_says}
use Rattle.tables.specs.Fit.{every, TablesFit}
use Rattle.tables.specs.Tables.{tables}
use Rattle.tables.proofs.Facts.{not_true, every_says, says_every}
use Rattle.tables.proofs.Offsets.{every_same}
use Rattle.blocks.specs.Blocks.{blocks, said, Own, own, rising, summary_of}
use Rattle.blocks.specs.Inside.{Fills, Told, BlocksFilled}
use Rattle.blocks.proofs.Places.{few_blocks}
use Rattle.blocks.proofs.Telling.{told_none}
use Rattle.blocks.proofs.Rectangles.{off_left}

-- ---- a loop of tests: those before k pass

pub record Testing (f : ℕ → Bool) (n k : ℕ) : Type 0 where
  pub at : k ≤ n
  pub so_far : every k f ≡ true

pub testing_none : (f : ℕ → Bool) (n : ℕ) → Testing f n 0
unfolding every
testing_none f n = record { at = omega arith; so_far = refl }

module _ {f : ℕ → Bool} {n k : ℕ} (h : Testing f n k) where
  pub testing_more : k < n → f k ≡ true → Testing f n (k + 1)
  unfolding every
  testing_more l e = record { at = omega arith; so_far = rw (add-one k) (and_both (every k f) (f k) h.so_far e) }

  pub testing_done : n ≤ k → true ≡ every n f
  testing_done l = let e : k ≡ n = omega (arith, h.at) in sym (rw e at h.so_far)

pub testing_bad : (f : ℕ → Bool) (n k : ℕ) → k < n → f k ≡ false → false ≡ every n f
testing_bad f n k l e = sym (not_true (every n f) (λ h. true≢false (sym (every_says n f h k l) ∙ e)))

-- ---- offsets that never fall

module _ (g : Grid) (offsets : List ℕ) where
  pub rising_short : length offsets ≤ g.rows * g.cols → false ≡ rising g offsets
  unfolding rising
  rising_short l = sym (off_left _ _ (lt-leb (g.rows * g.cols + 1) (length offsets) (omega arith)))

  pub rising_is : g.rows * g.cols < length offsets → every (g.rows * g.cols) (λ c. leb (get_or offsets c 0) (get_or offsets (suc c) 0)) ≡ rising g offsets
  unfolding rising
  rising_is l = rw (le-leb (g.rows * g.cols + 1) (length offsets) (omega arith))

  -- ---- a summary

  module _ (s : List ℕ) where
    pub unfit_none : fit g ≡ false → false ≡ summary_of g offsets s
    unfolding summary_of
    unfit_none e = rw e

    pub falling_none : fit g ≡ true → rising g offsets ≡ false → false ≡ summary_of g offsets s
    unfolding summary_of
    falling_none f e = rw (f, e)

    module _ (f : fit g ≡ true) (r : rising g offsets ≡ true) where
      pub short_none : length s < blocks g → false ≡ summary_of g offsets s
      unfolding summary_of
      short_none l = rw (f, r, lt-leb (blocks g) (length s) l)

      -- the numbers of the offsets, in a room of 4,148
      pub numbers_ask : (room : List ℕ) → room ≡ replicate {A = ℕ} 4148 0 → Fills g.cols g.rows offsets room × Told g.cols offsets 0 room
      unfolding rising blocks
      numbers_ask room e =
          let n = g.rows * g.cols in
          let b = few_blocks g f in
          let l : length room ≡ 4148 = ap (λ (xs : List ℕ). length xs) e ∙ length-replicate {A = ℕ} 4148 0 in
          let p = leb (n + 1) (length offsets) in
          let q = every n (λ c. leb (get_or offsets c 0) (get_or offsets (suc c) 0)) in (
            record {
              rises = λ c k. leb-true (get_or offsets c 0) (get_or offsets (suc c) 0) (every_says n (λ c. leb (get_or offsets c 0) (get_or offsets (suc c) 0)) (and_right p q r) c k);
              long = leb-true (n + 1) (length offsets) (and_left p q r);
              few = (fit_says g f).counts.cells;
              room = omega arith;
            },
            rw e (told_none g.cols offsets 4148),
          )

      pub room_for : (room now : List ℕ) → room ≡ replicate {A = ℕ} 4148 0 → BlocksFilled g.cols offsets (g.rows * g.cols) room now → blocks g ≤ length now
      room_for room now e h =
          let b = few_blocks g f in
          let l : length room ≡ 4148 = ap (λ (xs : List ℕ). length xs) e ∙ length-replicate {A = ℕ} 4148 0 in
          omega (arith, h.len)

      pub same_is : blocks g ≤ length s → (room now : List ℕ) → BlocksFilled g.cols offsets (g.rows * g.cols) room now
          → every (blocks g) (λ b. eqb (get_or s b 0) (get_or now b 0)) ≡ summary_of g offsets s
      unfolding summary_of own
      same_is l room now h =
          rw (f, r, le-leb (blocks g) (length s) l)
          (every_same (blocks g) (λ b. eqb (get_or s b 0) (get_or now b 0)) (λ b. eqb (get_or s b 0) (said g offsets b))
          (λ b _. ap (λ (x : ℕ). eqb (get_or s b 0) x) (h.told.at b)))

-- ---- the test and the sentence

pub own_says : (g : Grid) (offsets s : List ℕ) → own g offsets s ≡ true → Own g offsets s
unfolding own
own_says g offsets s h = record { at = λ b l. eqb-true (get_or s b 0) (said g offsets b) (every_says (blocks g) (λ b. eqb (get_or s b 0) (said g offsets b)) h b l) }

pub says_own : (g : Grid) (offsets s : List ℕ) → Own g offsets s → own g offsets s ≡ true
unfolding own
says_own g offsets s h = says_every (blocks g) (λ b. eqb (get_or s b 0) (said g offsets b)) (λ b l. eq-eqb (get_or s b 0) (said g offsets b) (h.at b l))

-- on tables that fit, with a number for each block, that is all there is to ask
pub fit_summary : (g : Grid) (n : ℕ) (offsets items globals : List ℕ) (found : ℕ) (s : List ℕ) → fit g ≡ true → TablesFit (tables g n offsets items globals found)
    → blocks g ≤ length s → summary_of g offsets s ≡ own g offsets s
unfolding summary_of rising
fit_summary g n offsets items globals found s f h l =
    rw (
      f,
      le-leb (g.rows * g.cols + 1) (length offsets) h.long,
      says_every (g.rows * g.cols) (λ c. leb (get_or offsets c 0) (get_or offsets (suc c) 0)) (λ c k. le-leb (get_or offsets c 0) (get_or offsets (suc c) 0) (h.lists.rises c k)),
      le-leb (blocks g) (length s) l,
    )
