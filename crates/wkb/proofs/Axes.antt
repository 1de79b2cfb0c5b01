-- Laws of the coordinates and points at a position: one coordinate of each point, one more coordinate, and how many there are.
-- Assumes nothing.
use mathlib.Core.Path.{◌≡◌, refl, sym, ap, ◌∙◌}
use mathlib.Core.List.{List, [], ◌∷◌, ◌++◌, map}
use Prim.Native.Nat.{ℕ, zero, suc, ◌+◌, ◌*◌}
use native.Mathlib.Omega.{arith}
use native.Mathlib.Numerals.{add-one}
use lib.ListN.{length}
use Rattle.wkb.specs.Bytes.{Point, number_at, points_at}
use Rattle.wkb.specs.Inside.{numbers_at}
use Rattle.wkb.specs.declared.Order.{Order}

module _ (o : Order) (bs : List ℕ) where
  pub length_points : (n at : ℕ) → length (points_at o n at bs) ≡ n
  unfolding points_at
  length_points zero at = refl
  length_points (suc n) at = ap suc (length_points n (at + 16))

  module _ {B : Type 0} (f : ℕ → B) where
    -- the first coordinates of points stand from their position on, and the second ones 8 bytes on
    pub axis_x : (n at : ℕ) → map (λ (p : Point). f p.x) (points_at o n at bs) ≡ map f (numbers_at o n at bs)
    unfolding points_at numbers_at
    axis_x zero at = refl
    axis_x (suc n) at = ap (λ (l : List B). f (number_at o 8 at bs) ∷ l) (axis_x n (at + 16))

    pub axis_y : (n at : ℕ) → map (λ (p : Point). f p.y) (points_at o n at bs) ≡ map f (numbers_at o n (at + 8) bs)
    unfolding points_at numbers_at
    axis_y zero at = refl
    axis_y (suc n) at =
        let e : at + 16 + 8 ≡ at + 8 + 16 = omega arith in
        ap (λ (l : List B). f (number_at o 8 (at + 8) bs) ∷ l) (axis_y n (at + 16) ∙ ap (λ (k : ℕ). map f (numbers_at o n k bs)) e)

  pub length_numbers : (n at : ℕ) → length (numbers_at o n at bs) ≡ n
  unfolding numbers_at
  length_numbers zero at = refl
  length_numbers (suc n) at = ap suc (length_numbers n (at + 16))

  snoc : (n at : ℕ) → numbers_at o (suc n) at bs ≡ numbers_at o n at bs ++ (number_at o 8 (at + 16 * n) bs ∷ [])
  unfolding numbers_at
  snoc zero at = let e : at ≡ at + 16 * 0 = omega arith in ap (λ (k : ℕ). number_at o 8 k bs ∷ []) e
  snoc (suc n) at =
      let e : at + 16 + 16 * n ≡ at + 16 * suc n = omega arith in
      ap (λ (l : List ℕ). number_at o 8 at bs ∷ l)
      (snoc n (at + 16) ∙ ap (λ (k : ℕ). numbers_at o n (at + 16) bs ++ (number_at o 8 k bs ∷ [])) e)

  -- one more point has its coordinate 16 bytes further on
  pub axis_more : (n at : ℕ) → numbers_at o n at bs ++ (number_at o 8 (at + 16 * n) bs ∷ []) ≡ numbers_at o (n + 1) at bs
  axis_more n at = sym (rw (add-one n) (snoc n at))
