-- The first number that passes a test, by what it is: it passes, and none before it does. And in row order: where a cell passes if its
-- column and its row do, the first cell is that of the first column and the first row. Assumes nothing.
use Rattle.std.specs.Prelude.{Some, None}
use Rattle.std.proofs.Common.{◌≡◌, ℕ, zero, suc, ◌+◌, ◌*◌, ◌/◌, ◌%◌, ◌<◌, ◌≤◌, Bool, true, false, ◌&&◌, eqb, sym, refl, ap, ◌∙◌, ap₂, mul-le-mul_right, mod-lt, mod-eq_of_lt, div-lt_iff_lt-mul, div-add-mod', zero-add, arith, eqb-true}
use native.Mathlib.Nat.{div-eq_of_lt, mul-add-div_right, mul-add-mod_self_right}
use borrow.Author.Tests.{eqb-false}
use Rattle.grid.proofs.Bools.{and_off}
use Rattle.own.specs.Owner.{or_else, first_from}

-- none of the numbers from k up to n passes
abbrev pub NonePasses : (ℕ → Bool) → ℕ → ℕ → Type 0
NonePasses test k n = (j : ℕ) → k ≤ j → j < n → test j ≡ false

-- i is the first of the numbers from k up to n that passes
pub record First (test : ℕ → Bool) (k n i : ℕ) : Type 0 where
  pub from : k ≤ i
  pub within : i < n
  pub passes : test i ≡ true
  pub before : NonePasses test k i

-- ---- from what it is to the search

at_from : (test : ℕ → Bool) (left k i : ℕ) → First test k (k + left) i → first_from test left k ≡ Some i
unfolding first_from
at_from test zero k i h = absurd (omega arith)
at_from test (suc left) k i h = go (eqb k i) refl (λ l. at_from test left (suc k) i (record { from = l; within = omega arith; passes = h.passes; before = λ j u v. h.before j (omega arith) v }))
  where
    go : (b : Bool) → eqb k i ≡ b → (suc k ≤ i → first_from test left (suc k) ≡ Some i) → or_else (test k) k (first_from test left (suc k)) ≡ Some i
    go true e later = let u = eqb-true k i e in ap (λ (b : Bool). or_else b k (first_from test left (suc k))) (ap test u ∙ h.passes) ∙ ap Some u
    go false e later =
        let n = eqb-false k i e in
        let l : suc k ≤ i = omega arith in
        ap (λ (b : Bool). or_else b k (first_from test left (suc k))) (h.before k (omega arith) l) ∙ later l

none_from : (test : ℕ → Bool) (left k : ℕ) → NonePasses test k (k + left) → first_from test left k ≡ None
unfolding first_from
none_from test zero k h = refl
none_from test (suc left) k h =
    ap (λ (b : Bool). or_else b k (first_from test left (suc k))) (h k (omega arith) (omega arith))
    ∙ none_from test left (suc k) (λ j u v. h j (omega arith) (omega arith))

-- ---- and back

from_at : (test : ℕ → Bool) (left k i : ℕ) → first_from test left k ≡ Some i → First test k (k + left) i
unfolding first_from
from_at test zero k i h = let z : ◌≡◌ {A = ℕ} 0 1 = cc in absurd (omega arith)
from_at test (suc left) k i h = go (test k) refl h (from_at test left (suc k) i)
  where
    go : (b : Bool) → test k ≡ b → or_else b k (first_from test left (suc k)) ≡ Some i → (first_from test left (suc k) ≡ Some i → First test (suc k) (suc k + left) i)
        → First test k (k + suc left) i
    go true e u later =
        let w : k ≡ i = cc in
        record { from = omega arith; within = omega arith; passes = ap test (sym w) ∙ e; before = λ j m n. absurd (omega arith) }
    go false e u later =
        let r = later u in
        record { from = omega arith; within = omega arith; passes = r.passes; before = λ j m n. other (eqb j k) refl m (λ l. r.before j l n) }
      where
        other : {j : ℕ} (b : Bool) → eqb j k ≡ b → k ≤ j → (suc k ≤ j → test j ≡ false) → test j ≡ false
        other {j} true q m f = ap test (eqb-true j k q) ∙ e
        other {j} false q m f = let n = eqb-false j k q in f (omega arith)

from_none : (test : ℕ → Bool) (left k : ℕ) → first_from test left k ≡ None → NonePasses test k (k + left)
unfolding first_from
from_none test zero k h = λ j u v. absurd (omega arith)
from_none test (suc left) k h = go (test k) refl h (from_none test left (suc k))
  where
    go : (b : Bool) → test k ≡ b → or_else b k (first_from test left (suc k)) ≡ None → (first_from test left (suc k) ≡ None → NonePasses test (suc k) (suc k + left))
        → NonePasses test k (k + suc left)
    go true e u later = let z : ◌≡◌ {A = ℕ} 0 1 = cc in absurd (omega arith)
    go false e u later = λ j m n. other j (eqb j k) refl m n (later u)
      where
        other : (j : ℕ) (b : Bool) → eqb j k ≡ b → k ≤ j → j < k + suc left → NonePasses test (suc k) (suc k + left) → test j ≡ false
        other j true q m n f = ap test (eqb-true j k q) ∙ e
        other j false q m n f = let d = eqb-false j k q in f j (omega arith) (omega arith)

-- ---- the two ways, from 0 on

module _ (test : ℕ → Bool) (n : ℕ) where
  pub first_at : (i : ℕ) → First test 0 n i → first_from test n 0 ≡ Some i
  first_at i h = at_from test n 0 i (rw zero-add h)

  pub first_none : NonePasses test 0 n → first_from test n 0 ≡ None
  first_none h = none_from test n 0 (rw zero-add h)

  pub at_first : (i : ℕ) → first_from test n 0 ≡ Some i → First test 0 n i
  at_first i h = rw zero-add at (from_at test n 0 i h)

  pub none_first : first_from test n 0 ≡ None → NonePasses test 0 n
  none_first h = rw zero-add at (from_none test n 0 h)

-- ---- in row order

module _ (A B : ℕ → Bool) (cols rows : ℕ) where
  -- cell k passes if its column and its row do
  abbrev cell : ℕ → Bool
  cell k = A (k % cols) && B (k / cols)

  column_of : (k : ℕ) → k < rows * cols → k % cols < cols
  column_of k h = mod-lt k (some cols rows h)
    where
      some : (cols rows : ℕ) → k < rows * cols → 0 < cols
      some zero rows h = absurd (omega arith)
      some (suc n) rows h = omega arith

  pub no_column : NonePasses A 0 cols → NonePasses cell 0 (rows * cols)
  no_column none k l h = ap (λ (b : Bool). b && B (k / cols)) (none (k % cols) (omega arith) (column_of k h))

  pub no_row : NonePasses B 0 rows → NonePasses cell 0 (rows * cols)
  no_row none k l h =
      let some : 0 < cols = omega (arith, column_of k h) in
      and_off (A (k % cols)) (B (k / cols)) (none (k / cols) (omega arith) ((div-lt_iff_lt-mul some).1 h))

  module _ (c r : ℕ) (col : First A 0 cols c) (row : First B 0 rows r) where
    some : 0 < cols
    some = omega (arith, col.within)

    pub column_is : (r * cols + c) % cols ≡ c
    column_is = mul-add-mod_self_right r cols c ∙ mod-eq_of_lt col.within

    pub row_is : (r * cols + c) / cols ≡ r
    row_is = let e = div-eq_of_lt col.within in let u = mul-add-div_right some r c in omega arith

    earlier : (j : ℕ) → j < r * cols + c → cell j ≡ false
    earlier j h = go (eqb (j / cols) r) refl
      where
        go : (b : Bool) → eqb (j / cols) r ≡ b → cell j ≡ false
        go true e =
            let q : j / cols * cols ≡ r * cols = ap (λ (n : ℕ). n * cols) (eqb-true (j / cols) r e) in
            let m = div-add-mod' j cols in
            ap (λ (b : Bool). b && B (j / cols)) (col.before (j % cols) (omega arith) (omega arith))
        go false e =
            let n = eqb-false (j / cols) r e in
            let w = col.within in
            let q : j / cols < suc r = (div-lt_iff_lt-mul some).1 (omega arith) in
            and_off (A (j % cols)) (B (j / cols)) (row.before (j / cols) (omega arith) (omega arith))

    pub first_cell : First cell 0 (rows * cols) (r * cols + c)
    first_cell = record {
      from = omega arith;
      within = let h : suc r * cols ≤ rows * cols = mul-le-mul_right cols row.within in let l = col.within in omega arith;
      passes = ap₂ ◌&&◌ (ap A column_is ∙ col.passes) (ap B row_is ∙ row.passes);
      before = λ j l h. earlier j h;
    }
