-- Bit patterns and the NaN: which patterns of 64 bits are a NaN's, and the pattern that the NaN has. Assumes nothing.
use Rattle.std.proofs.Common.{◌≡◌, ℕ, ◌*◌, ◌/◌, ◌%◌, ◌^◌, ◌<◌, ◌≤◌, true, false, not, T, eqb, leb, sym, ap, ◌∙◌, subst, true≢false, arith, eq-eqb, ne_eqb}
use native.Mathlib.Decide.{ℕ_discrete}
use lib.Ieee.{Float, nan, inf, fin, binary64, of_fields, of_bits, to_bits, nan_bits, ne, is_nan}
use lib.Ieee.Compare.{differs_from_itself, nan_differs}

-- ---- the patterns of a NaN are those that, without the sign, lie above infinity's, which is 2047 * 2 ^ 52

pub nan_above : (b : ℕ) → 2047 * 2 ^ 52 < b % 2 ^ 63 → of_bits binary64 b ≡ nan
unfolding of_bits of_fields
nan_above b h =
    let field : b % 2 ^ 63 / 2 ^ 52 ≡ 2047 = omega arith in
    let digits : eqb (b % 2 ^ 52) 0 ≡ false = ne_eqb (b % 2 ^ 52) 0 (λ (e : b % 2 ^ 52 ≡ 0). omega arith) in
    ap (λ (x : ℕ). of_fields binary64 (leb (2 ^ 63) b) x (b % 2 ^ 52)) field ∙ rw digits

pub number_within : (b : ℕ) → b % 2 ^ 63 ≤ 2047 * 2 ^ 52 → T (not (nan_bits binary64 b))
unfolding nan_bits
number_within b h = elim (ℕ_discrete (b % 2 ^ 63 / 2 ^ 52) 2047) [
  | yes e ↦ (let d : b % 2 ^ 52 ≡ 0 = omega arith in rw (eq-eqb (b % 2 ^ 63 / 2 ^ 52) 2047 e, eq-eqb (b % 2 ^ 52) 0 d) tt)
  | no n ↦ (rw (ne_eqb (b % 2 ^ 63 / 2 ^ 52) 2047 n) tt)
]

-- ---- a NaN alone differs from itself

pub nan_pattern : (v : Float) → ne v v ≡ true → 9221120237041090560 ≡ to_bits binary64 v
unfolding to_bits
nan_pattern v h = rw (differs_from_itself v (subst T (sym h) tt))

pub not_nan : (v : Float) → ne v v ≡ false → T (not (is_nan v))
unfolding is_nan
not_nan nan h = absurd (true≢false (rw nan_differs at h))
not_nan (inf s) h = tt
not_nan (fin s m e) h = tt
