-- Laws of `magnitude_of`, for the crates above: what a bound on the size of a float says of the float. Assumes nothing.
use Rattle.std.proofs.Common.{ℕ, zero, suc, Bool, true, false, T, ℤ, refl, arith}
use lib.Ieee.{Float, nan, inf, fin, Format, neg, le, fits}
use lib.Ieee.Exact.{HasValue}
use lib.Ieee.Scale.{finite}
use Rattle.numbers.specs.Order.{magnitude_of}
use Rattle.numbers.proofs.FloatOrder.{number, cross→le, float_le_trans, le_neg, least_of_all, greatest_of_all}

-- the size of a value, and of a value of a format
pub magnitude_value : (v : Float) (s : Bool) (a c : ℕ) → HasValue v s a c → HasValue (magnitude_of v) false a c
unfolding magnitude_of
magnitude_value nan s a c h = h
magnitude_value (inf t) s a c h = h
magnitude_value (fin t m e) s a c h = (refl, h.1)

pub magnitude_fits : (f : Format) (v : Float) → T (fits f v) → T (fits f (magnitude_of v))
unfolding magnitude_of fits
magnitude_fits f nan t = t
magnitude_fits f (inf s) t = t
magnitude_fits f (fin s zero e) t = t
magnitude_fits f (fin s (suc m) e) t = t

-- what has a size that is at most some finite value is finite: no NaN and no infinity
pub magnitude_finite : (v b : Float) → T (finite b) → T (le (magnitude_of v) b) → T (finite v)
unfolding magnitude_of
magnitude_finite nan b p h = absurd (unfold le in h)
magnitude_finite (inf s) nan p h = absurd p
magnitude_finite (inf s) (inf t) p h = absurd p
magnitude_finite (inf s) (fin t n g) p h = absurd (unfold le in h)
magnitude_finite (fin s m e) b p h = tt

-- ---- a bound on the size bounds the value on both sides

size_over : (s : Bool) (m : ℕ) (e : ℤ) → T (le (fin s m e) (fin false m e))
size_over false m e = cross→le (fin false m e) (fin false m e) tt tt (omega arith)
size_over true m e = cross→le (fin true m e) (fin false m e) tt tt (omega arith)

size_under : (s : Bool) (m : ℕ) (e : ℤ) → T (le (fin true m e) (fin s m e))
size_under true m e = cross→le (fin true m e) (fin true m e) tt tt (omega arith)
size_under false m e = size_over true m e

pub magnitude_over : (v : Float) → T (number v) → T (le v (magnitude_of v))
unfolding magnitude_of
magnitude_over nan p = absurd p
magnitude_over (inf s) p = greatest_of_all (inf s) tt
magnitude_over (fin s m e) p = size_over s m e

pub magnitude_under : (v : Float) → T (number v) → T (le (neg (magnitude_of v)) v)
unfolding magnitude_of neg
magnitude_under nan p = absurd p
magnitude_under (inf s) p = least_of_all (inf s) tt
magnitude_under (fin s m e) p = size_under s m e

pub magnitude_within : (v b : Float) → T (finite b) → T (le (magnitude_of v) b) → T (le (neg b) v) × T (le v b)
magnitude_within v b p h =
    let n = finite_number v (magnitude_finite v b p h) in
    (float_le_trans (neg b) (neg (magnitude_of v)) v (le_neg (magnitude_of v) b h) (magnitude_under v n), float_le_trans v (magnitude_of v) b (magnitude_over v n) h)
  where
    finite_number : (v : Float) → T (finite v) → T (number v)
    finite_number nan p = p
    finite_number (inf s) p = tt
    finite_number (fin s m e) p = tt
