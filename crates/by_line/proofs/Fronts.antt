-- Laws of the search for a common cell. Assumes nothing.
use mathlib.Core.Path.{◌≡◌, refl, sym, ap, ◌∙◌}
use mathlib.Core.Bool.{true, false, cond}
use mathlib.Core.List.{List, []}
use Prim.Native.Nat.{ℕ, zero, suc, ◌+◌, ◌-◌, ◌≤◌, ◌<◌}
use native.Mathlib.Omega.{arith}
use borrow.Author.Tests.{eq-eqb, ne_eqb, lt-ltb, le-ltb, le-leb, lt-leb}
use lib.Dec.{eqb, ltb}
use lib.ListN.{length, get_or, take, drop}
use Rattle.tables.proofs.Facts.{part_slice}
use Rattle.by_line.specs.First.{meets, front_of}

-- ---- one turn of the search

module _ (xs ys : List ℕ) where
  pub meets_none : (j : ℕ) → meets xs ys 0 j ≡ false
  unfolding meets
  meets_none j = refl

  pub meets_empty : (i j : ℕ) → j ≡ 0 → meets xs ys i j ≡ false
  unfolding meets
  meets_empty zero j e = refl
  meets_empty (suc i) j e = rw e

  meets_suc : (i j : ℕ)
      → meets xs ys (suc i) (suc j) ≡ cond (eqb (get_or xs i 0) (get_or ys j 0)) true (cond (ltb (get_or xs i 0) (get_or ys j 0)) (meets xs ys (suc i) j) (meets xs ys i (suc j)))
  unfolding meets
  meets_suc i j = refl

  module _ (i j : ℕ) (a : 0 < i) (b : 0 < j) where
    turn : meets xs ys i j ≡ cond (eqb (get_or xs (i - 1) 0) (get_or ys (j - 1) 0)) true (cond (ltb (get_or xs (i - 1) 0) (get_or ys (j - 1) 0)) (meets xs ys i (j - 1)) (meets xs ys (i - 1) j))
    turn =
        let ei : i ≡ suc (i - 1) = omega arith in
        let ej : j ≡ suc (j - 1) = omega arith in
        ap (λ (z : ℕ). meets xs ys z j) ei ∙ ap (meets xs ys (suc (i - 1))) ej ∙ meets_suc (i - 1) (j - 1)
        ∙ rw (← ei, ← ej)

    pub meets_same : get_or xs (i - 1) 0 ≡ get_or ys (j - 1) 0 → meets xs ys i j ≡ true
    meets_same e = turn ∙ rw (eq-eqb _ _ e)

    module _ (n : get_or xs (i - 1) 0 ≡ get_or ys (j - 1) 0 → ⊥) where
      pub meets_left : get_or xs (i - 1) 0 < get_or ys (j - 1) 0 → meets xs ys i j ≡ meets xs ys i (j - 1)
      meets_left l = turn ∙ rw (ne_eqb _ _ n, lt-ltb _ _ l)

      pub meets_right : get_or ys (j - 1) 0 ≤ get_or xs (i - 1) 0 → meets xs ys i j ≡ meets xs ys (i - 1) j
      meets_right l = turn ∙ rw (ne_eqb _ _ n, le-ltb _ _ l)

-- ---- the first cells of a line

module _ (line : ℕ) (starts listing counts : List ℕ) where
  pub front_starts : length starts ≤ line → [] ≡ front_of line starts listing counts
  unfolding front_of
  front_starts h = rw (le-ltb line (length starts) h)

  pub front_counts : line < length starts → length counts ≤ line → [] ≡ front_of line starts listing counts
  unfolding front_of
  front_counts h k = rw (lt-ltb line (length starts) h, le-ltb line (length counts) k)

  module _ (h : line < length starts) (k : line < length counts) where
    pub front_beyond : length listing < get_or starts line 0 + get_or counts line 0 → [] ≡ front_of line starts listing counts
    unfolding front_of
    front_beyond l = rw (lt-ltb line (length starts) h, lt-ltb line (length counts) k, lt-leb (get_or starts line 0 + get_or counts line 0) (length listing) l)

    pub front_is : (from to : ℕ) → from ≡ get_or starts line 0 → to ≡ from + get_or counts line 0 → to ≤ length listing
        → take (to - from) (drop from listing) ≡ front_of line starts listing counts
    unfolding front_of
    front_is from to ef et l =
        let l' : get_or starts line 0 + get_or counts line 0 ≤ length listing = omega arith in
        part_slice from to listing
        ∙ rw (lt-ltb line (length starts) h, lt-ltb line (length counts) k, le-leb (get_or starts line 0 + get_or counts line 0) (length listing) l', et, ef)

-- ---- the loop

module _ (xs ys : List ℕ) where
  pub none_left : length xs ≡ 0 → false ≡ meets xs ys (length xs) (length ys)
  none_left e = sym (rw e (meets_none xs ys (length ys)))

  pub none_right : length ys ≡ 0 → false ≡ meets xs ys (length xs) (length ys)
  none_right e = sym (meets_empty xs ys (length xs) (length ys) e)

-- the last entries that are left, and what is still to be found
pub record Comparing (xs ys : List ℕ) (i j x y : ℕ) : Type 0 where
  pub in_xs : i ≤ length xs
  pub in_ys : j ≤ length ys
  pub some_x : 0 < i
  pub some_y : 0 < j
  pub x_is : x ≡ get_or xs (i - 1) 0
  pub y_is : y ≡ get_or ys (j - 1) 0
  pub same : meets xs ys (length xs) (length ys) ≡ meets xs ys i j

module _ {xs ys : List ℕ} {i j x y : ℕ} (s : Comparing xs ys i j x y) where
  pub comparing_found : x ≡ y → true ≡ meets xs ys (length xs) (length ys)
  comparing_found e = sym (s.same ∙ meets_same xs ys i j s.some_x s.some_y (sym s.x_is ∙ e ∙ s.y_is))

  module _ (n : x ≡ y → ⊥) where
    apart : get_or xs (i - 1) 0 ≡ get_or ys (j - 1) 0 → ⊥
    apart e = n (s.x_is ∙ e ∙ sym s.y_is)

    module _ (l : x < y) where
      left : meets xs ys (length xs) (length ys) ≡ meets xs ys i (j - 1)
      left = s.same ∙ meets_left xs ys i j s.some_x s.some_y apart (rw (← s.x_is, ← s.y_is) l)

      pub comparing_left_over : j - 1 ≡ 0 → false ≡ meets xs ys (length xs) (length ys)
      comparing_left_over e = sym (left ∙ meets_empty xs ys i (j - 1) e)

      pub comparing_left : (j - 1 ≡ 0 → ⊥) → Comparing xs ys i (j - 1) x (get_or ys ((j - 1) - 1) 0)
      comparing_left d =
          record { in_xs = s.in_xs; in_ys = omega (arith, s.in_ys); some_x = s.some_x; some_y = omega (arith, d); x_is = s.x_is; y_is = refl; same = left }

    module _ (l : y ≤ x) where
      right : meets xs ys (length xs) (length ys) ≡ meets xs ys (i - 1) j
      right = s.same ∙ meets_right xs ys i j s.some_x s.some_y apart (rw (← s.x_is, ← s.y_is) l)

      pub comparing_right_over : i - 1 ≡ 0 → false ≡ meets xs ys (length xs) (length ys)
      comparing_right_over e = sym (right ∙ rw e (meets_none xs ys j))

      pub comparing_right : (i - 1 ≡ 0 → ⊥) → Comparing xs ys (i - 1) j (get_or xs ((i - 1) - 1) 0) y
      comparing_right d =
          record { in_xs = omega (arith, s.in_xs); in_ys = s.in_ys; some_x = omega (arith, d); some_y = s.some_y; x_is = refl; y_is = s.y_is; same = right }
