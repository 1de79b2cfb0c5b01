-- On an axis of a fit grid a larger index has no smaller low edge and no smaller high edge. So "low <= p" holds of the indexes up to
-- some index, and "p < high" of those from some index on. Assumes nothing.
use Rattle.std.proofs.Common.{◌≡◌, ℕ, ◌*◌, ◌≤◌, Bool, true, false, T, pos, refl, ap, subst, true≢false, le_trans, mul-le-mul_right, mul-pos, arith, lit≤}
use lib.Ieee.{Float, nan, inf, fin, Format, binary64, up, down, round, of_int, mul, lt, le}
use lib.Ieee.Exact.{HasValue}
use lib.Ieee.Back.{round_whole}
use lib.Ieee.Fits.{down_pos}
use lib.Ieee.Order.{round_mono}
use lib.Ieee.Scale.{round_same, finite}
use lib.Ieee.Positive.{num, den, den_pos, positive, positive-finite}
use Rattle.numbers.proofs.FloatOrder.{number, float_le_trans, at_most, not_under}
use Rattle.numbers.proofs.FloatSum.{round_number, add_number, add_mono, add_swap}
use Rattle.numbers.proofs.Tests.{holds}
use Rattle.grid.specs.declared.Axis.{Axis}
use Rattle.grid.specs.Axes.{low_on, high_on}
use Rattle.grid.specs.Domain.{coordinate, size_fits}
use Rattle.grid.proofs.Floats.{coordinate_finite, size_positive, coordinate_number}

-- ---- what the domain says of the floats

clash : (b : Bool) → b ≡ false → T b → ⊥
clash b h t = subst T h t

-- ---- i x size is i * size, rounded

times_value : (f : Format) (x y : Float) (i : ℕ) → HasValue x false i 1 → T (positive y) → mul f x y ≡ round f false (i * num y) (den y)
unfolding mul
times_value f nan y i h p = absurd h
times_value f (inf s) y i h p = absurd h
times_value f (fin s m e) nan i h p = absurd p
times_value f (fin s m e) (inf t) i h p = absurd p
times_value f (fin s m e) (fin true n d) i h p = absurd p
times_value f (fin true m e) (fin false n d) i h p = absurd (true≢false h.0)
times_value f (fin false m e) (fin false n d) i h p =
    round_same f false (m * up e * (n * up d)) (down e * down d) (i * (n * up d)) (down d) (mul-pos (down_pos e) (down_pos d)) (down_pos d)
    (cross (m * up e) (down e) (n * up d) (down d) i h.1)
  where
    cross : (x c y d i : ℕ) → x * 1 ≡ i * c → x * y * d ≡ i * y * (c * d)
    cross x c y d i e = let k : x * 1 * (y * d) ≡ i * c * (y * d) = ap (λ (z : ℕ). z * (y * d)) e in omega arith

-- an index is a value of the format
index_value : (i : ℕ) → i ≤ 4004 → HasValue (of_int binary64 (pos i)) false i 1
unfolding of_int
index_value i h = round_whole binary64 false i (le_trans h (lit≤ tt))

module _ (s : Float) (s+ : T (positive s)) where
  times : (i : ℕ) → i ≤ 4004 → mul binary64 (of_int binary64 (pos i)) s ≡ round binary64 false (i * num s) (den s)
  times i h = times_value binary64 (of_int binary64 (pos i)) s i (index_value i h) s+

  times_number : (i : ℕ) → i ≤ 4004 → T (number (mul binary64 (of_int binary64 (pos i)) s))
  times_number i h = rw (times i h) (round_number binary64 false (i * num s) (den s) (den_pos s))

  times_mono : (i j : ℕ) → i ≤ j → j ≤ 4004 → T (le (mul binary64 (of_int binary64 (pos i)) s) (mul binary64 (of_int binary64 (pos j)) s))
  times_mono i j l h =
      rw (times i (le_trans l h), times j h)
      (round_mono binary64 (i * num s) (den s) (j * num s) (den s) (den_pos s) (den_pos s) (mul-le-mul_right (den s) (mul-le-mul_right (num s) l)))

-- ---- the edges

module _ (a : Axis) (low_fits : coordinate a.low ≡ true) (size_fits_lem : size_fits a.size ≡ true) where
  low_finite : T (finite a.low)
  low_finite = coordinate_finite a.low low_fits

  size+ : T (positive a.size)
  size+ = size_positive a.size size_fits_lem

  pub low_number : (i : ℕ) → i ≤ 4004 → T (number (low_on a i))
  unfolding low_on
  low_number i h = rw add_swap (add_number binary64 (mul binary64 (of_int binary64 (pos i)) a.size) a.low (times_number a.size size+ i h) low_finite)

  pub low_mono : (i j : ℕ) → i ≤ j → j ≤ 4004 → T (le (low_on a i) (low_on a j))
  unfolding low_on
  low_mono i j l h =
      let x = mul binary64 (of_int binary64 (pos i)) a.size in
      let y = mul binary64 (of_int binary64 (pos j)) a.size in
      rw (add_swap binary64 a.low x, add_swap binary64 a.low y)
      (add_mono binary64 x y a.low low_finite (times_mono a.size size+ i j l h))

  pub high_number : (i : ℕ) → i ≤ 4004 → T (number (high_on a i))
  unfolding high_on
  high_number i h = add_number binary64 (low_on a i) a.size (low_number i h) (positive-finite a.size size+)

  pub high_mono : (i j : ℕ) → i ≤ j → j ≤ 4004 → T (le (high_on a i) (high_on a j))
  unfolding high_on
  high_mono i j l h = add_mono binary64 (low_on a i) (low_on a j) a.size (positive-finite a.size size+) (low_mono i j l h)

  -- ---- what a search along them rests on

  -- a point that is not below a high edge is not below those before it
  pub over_before : (p : Float) (i j : ℕ) → coordinate p ≡ true → i ≤ j → j ≤ 4004 → lt p (high_on a j) ≡ false → lt p (high_on a i) ≡ false
  over_before p i j n l h k =
      not_under (high_on a i) p (float_le_trans (high_on a i) (high_on a j) p (high_mono i j l h) (at_most (high_on a j) p (high_number j h) (coordinate_number p n) k))

  -- a point under a low edge is under those after it
  pub under_after : (p : Float) (i j : ℕ) → i ≤ j → j ≤ 4004 → le (low_on a i) p ≡ false → le (low_on a j) p ≡ false
  under_after p i j l h k = go (le (low_on a j) p) refl
    where
      go : (b : Bool) → le (low_on a j) p ≡ b → b ≡ false
      go true e = absurd (clash (le (low_on a i) p) k (float_le_trans (low_on a i) (low_on a j) p (low_mono i j l h) (holds (le (low_on a j) p) e)))
      go false e = refl
