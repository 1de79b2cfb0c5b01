-- A width, stretched by 1e-9, is at most 1,001 times a cell size that is at least a thousandth of the width, and at least 1e-6. The stretch is a
-- thousandth of the least size, and a rounding changes a value by less than a millionth of it, so 1,001 has room. Assumes nothing.
use Rattle.std.proofs.Common.{◌≡◌, ℕ, ◌+◌, ◌*◌, ◌^◌, ◌<◌, ◌≤◌, true, false, T, sym, refl, ap, ◌∙◌, subst, le_trans, le_of_eq, mul-le-mul_right, mul_assoc, mul-pos, mul-one, le_of_mul-le-mul_right, mul_left_comm, arith, lit<, lit≤, pow_pos}
use lib.Ieee.{Float, nan, inf, fin, Format, binary32, binary64, round, add, div, le, low}
use lib.Ieee.Exact.{HasValue}
use lib.Ieee.Scale.{grid, finite}
use lib.Ieee.Positive.{num, den, den_pos, positive, positive-finite, between}
use Rattle.numbers.proofs.FloatSum.{add_mono}
use Rattle.sizing.proofs.Constants.{nought, 1e-9, 1e-9_is, 1e-6, thousand, 2e9}
use Rattle.sizing.proofs.Reach.{Spans}
use Rattle.numbers.proofs.Rounding.{half, over_by, under_by}
use Rattle.numbers.proofs.FloatFractions.{nonneg, le→cross, finite_under, nonneg_of_positive, own_value, values_of_le, add_is, div_at, round_value, cross→le, neg_zero_add, neg_zero_of, Times, times_of_values}

-- ---- the arithmetic, over plain numbers
core : (a b c d e t x : ℕ) → a * 1000000 ≤ (b + t) * 1000001 + 1000000 * e → b * 1000000 ≤ 1000 * d * 1000000 + b + 1000000 * (1000 * e)
    → d ≤ c → x ≤ c → 999 * t ≤ x → 1000000 * e ≤ x → a ≤ 1001 * c
core a b c d e t x e1 e2 e3 e4 e5 e6 = omega arith

-- each fact of `main`, below, times the other denominators
m1 : (g l W dw T' dt z : ℕ) → g * (dw * dt) * 1000000 ≤ (W * dt + T' * dw) * l * 1000000 + (W * dt + T' * dw) * l + 1000000 * (dw * dt)
    → g * dw * dt * z * 1000000 ≤ (W * l * dt * z + T' * l * dw * z) * 1000001 + 1000000 * (dw * dt * z)
m1 g l W dw T' dt z h = omega (arith, mul-le-mul_right z h)

m2 : (v l W dw dt z : ℕ) → W * l * 1000000 ≤ v * (1000 * dw) * 1000000 + W * l + 1000000 * (1000 * dw)
    → W * l * dt * z * 1000000 ≤ 1000 * (v * dw * dt * z) * 1000000 + W * l * dt * z + 1000000 * (1000 * (dw * dt * z))
m2 v l W dw dt z h = omega (arith, mul-le-mul_right (dt * z) h)

m3 : (v l dw dt S ds dx : ℕ) → v * ds ≤ S * l → v * dw * dt * (ds * dx) ≤ S * l * (dw * dt * dx)
m3 v l dw dt S ds dx h = omega (arith, mul-le-mul_right (dw * dt * dx) h)

m4 : (l dw dt S ds X dx : ℕ) → X * ds ≤ S * dx → X * l * (dw * dt * ds) ≤ S * l * (dw * dt * dx)
m4 l dw dt S ds X dx h = omega (arith, mul-le-mul_right (l * (dw * dt)) h)

m5 : (l dw T' dt ds X dx : ℕ) → T' * dx * 999 ≤ X * dt → 999 * (T' * l * dw * (ds * dx)) ≤ X * l * (dw * dt * ds)
m5 l dw T' dt ds X dx h = omega (arith, mul-le-mul_right (l * dw * ds) h)

m6 : (l dw dt ds X dx : ℕ) → dx * 1000000 ≤ X * l → 1000000 * (dw * dt * (ds * dx)) ≤ X * l * (dw * dt * ds)
m6 l dw dt ds X dx h = omega (arith, mul-le-mul_right (dw * dt * ds) h)

-- g / l is w + t rounded, v / l is w / 1000 rounded, and s is at least v and at least x; t is at most x / 999 and x is a million units at least
main : (g v l W dw T' dt S ds X dx : ℕ) → 0 < dw → 0 < dt → 0 < dx
    → g * (dw * dt) * 1000000 ≤ (W * dt + T' * dw) * l * 1000000 + (W * dt + T' * dw) * l + 1000000 * (dw * dt)
    → W * l * 1000000 ≤ v * (1000 * dw) * 1000000 + W * l + 1000000 * (1000 * dw)
    → v * ds ≤ S * l
    → X * ds ≤ S * dx
    → T' * dx * 999 ≤ X * dt
    → dx * 1000000 ≤ X * l
    → g * ds ≤ 1001 * (S * l)
main g v l W dw T' dt S ds X dx Dw Dt Dx e1 e2 e3 e4 e5 e6 =
    let z = ds * dx in
    let y = dw * dt * dx in
    let G : g * dw * dt * z ≤ 1001 * (S * l * y) =
    core (g * dw * dt * z) (W * l * dt * z) (S * l * y) (v * dw * dt * z) (dw * dt * z) (T' * l * dw * z) (X * l * (dw * dt * ds))
    (m1 g l W dw T' dt z e1) (m2 v l W dw dt z e2) (m3 v l dw dt S ds dx e3) (m4 l dw dt S ds X dx e4) (m5 l dw T' dt ds X dx e5) (m6 l dw dt ds X dx e6) in
    let l1 : g * ds * y ≡ g * dw * dt * z = simp (mul_assoc, mul_left_comm) in
    le_of_mul-le-mul_right (le_trans (le_of_eq l1) (le_trans G (le_of_eq (sym (mul_assoc 1001 (S * l) y))))) (mul-pos (mul-pos Dw Dt) Dx)

-- ---- the errors, for either format
million : (f : Format) → 1000000 ≤ 2 * half f
million binary32 = lit≤ tt
million binary64 = lit≤ tt

-- ---- the law, for either format and any constants that meet the conditions
module _ (f : Format) (w t9 t6 k s : Float) (w+ : T (nonneg w)) (t9+ : T (positive t9)) (t6+ : T (positive t6)) (s+ : T (positive s)) (k+ : T (positive k))
    (k_is : HasValue k false 1000 1) (small : num t9 * den t6 * 999 ≤ num t6 * den t9) (big : den t6 * 1000000 ≤ num t6 * 2 ^ low f)
    (fine : T (finite (add f w t9))) (above-v : T (le (div f w k) s)) (above-t : T (le t6 s)) where
  abbrev pub A1 : ℕ
  A1 = num w * den t9 + num t9 * den w

  abbrev pub C1 : ℕ
  C1 = den w * den t9

  sum_is : add f w t9 ≡ round f false A1 C1
  sum_is = add_is f w t9 w+ (nonneg_of_positive t9 t9+)

  pub sum_value : HasValue (add f w t9) false (grid f A1 C1) (2 ^ low f)
  sum_value = subst (λ (z : Float). HasValue z false (grid f A1 C1) (2 ^ low f)) (sym sum_is) (round_value f A1 C1 (subst (λ (z : Float). T (finite z)) sum_is fine))

  s_nonneg : T (nonneg s)
  s_nonneg = nonneg_of_positive s s+

  quot_is : div f w k ≡ round f false (num w) (1000 * den w)
  quot_is = div_at f w k (num w) (den w) 1000 1 k+ (den_pos w) (lit< tt) (own_value w w+) k_is ∙ ap (λ (z : ℕ). round f false z (1000 * den w)) (mul-one (num w))

  C2 : 0 < 1000 * den w
  C2 = mul-pos (lit< tt) (den_pos w)

  quot_value : HasValue (div f w k) false (grid f (num w) (1000 * den w)) (2 ^ low f)
  quot_value =
      subst (λ (z : Float). HasValue z false (grid f (num w) (1000 * den w)) (2 ^ low f)) (sym quot_is)
      (round_value f (num w) (1000 * den w) (finite_under f (num w) (1000 * den w) s C2 s_nonneg (subst (λ (z : Float). T (le z s)) quot_is above-v)))

  pub exact_le : grid f A1 C1 * den s ≤ 1001 * (num s * 2 ^ low f)
  exact_le =
      main (grid f A1 C1) (grid f (num w) (1000 * den w)) (2 ^ low f) (num w) (den w) (num t9) (den t9) (num s) (den s) (num t6) (den t6)
      (den_pos w) (den_pos t9) (den_pos t6)
      (over_by f A1 C1 (mul-pos (den_pos w) (den_pos t9)) 1000000 (million f))
      (under_by f (num w) (1000 * den w) C2 1000000 (million f))
      (values_of_le (div f w k) s (grid f (num w) (1000 * den w)) (2 ^ low f) (num s) (den s) quot_value (own_value s s_nonneg) above-v)
      (le→cross t6 s (nonneg_of_positive t6 t6+) s_nonneg above-t)
      small big

  -- the rounded sum is at most 1,001 times s
  pub sum_times : Times (add f w t9) s 1001
  sum_times = times_of_values (add f w t9) s 1001 (grid f A1 C1) (2 ^ low f) (num s) (den s) (pow_pos (low f)) (den_pos s) sum_value (own_value s s_nonneg) exact_le

-- ---- for document 01's constants

-- a width, and how far it is stretched
abbrev pub stretched : Float → Float
stretched w = add binary64 w (round binary64 false 1 1000000000)

-- it lies between 1e-9 and a bit above 2e9
stretched_least : (w : Float) → T (le nought w) → T (le 1e-9 (add binary64 w 1e-9))
stretched_least w h = unfold add in add_mono binary64 nought w 1e-9 tt h

stretched_most : (w : Float) → T (le w 2e9) → T (le (add binary64 w 1e-9) 2e9)
stretched_most w h = unfold add in add_mono binary64 w 2e9 1e-9 tt h

pub record Stretched (x : Float) : Type 0 where
  pub above : T (positive x)
  pub least : num 1e-9 * den x ≤ num x * den 1e-9

module _ (w : Float) (p : Spans w) where
  stretched_positive : T (positive (add binary64 w 1e-9))
  stretched_positive = between 1e-9 (add binary64 w 1e-9) 2e9 tt tt (stretched_least w p.above) (stretched_most w p.below)

  pub stretched_is : Stretched (stretched w)
  stretched_is =
      let x = add binary64 w 1e-9 in
      rw 1e-9_is (record { above = stretched_positive; least = le→cross 1e-9 x tt (nonneg_of_positive x stretched_positive) (stretched_least w p.above) })

zero_width : (s : Float) → T (positive s) → T (le (div binary64 nought thousand) s)
unfolding div
zero_width s p = cross→le nought s tt (nonneg_of_positive s p) (omega arith)

clear_width : (w s : Float) → T (nonneg w) → T (finite (add binary64 w 1e-9)) → T (positive s) → T (le (div binary64 w thousand) s) → T (le 1e-6 s) → Times (add binary64 w 1e-9) s 1001
clear_width w s w+ fine s+ h k = sum_times binary64 w 1e-9 1e-6 thousand s w+ tt tt s+ tt (refl, refl) (lit≤ tt) (lit≤ tt) fine h k

-- a width of -0 is as good as 0
any_width : (w s : Float) → Spans w → T (positive s) → T (le (div binary64 w thousand) s) → T (le 1e-6 s) → Times (add binary64 w 1e-9) s 1001
any_width nan s p s+ h k = absurd p.fine
any_width (inf t) s p s+ h k = absurd p.fine
any_width (fin false m e) s p s+ h k = let x = fin false m e in clear_width x s tt (positive-finite (add binary64 x 1e-9) (stretched_positive x p)) s+ h k
any_width (fin true m e) s p s+ h k =
    rw (neg_zero_add binary64 m e 1e-9 (neg_zero_of m e p.above) tt) (clear_width nought s tt (unfold add in tt) s+ (zero_width s s+) k)

pub width_times : (w s : Float) → Spans w → T (positive s) → T (le (div binary64 w thousand) s) → T (le 1e-6 s) → Times (stretched w) s 1001
width_times w s p s+ h k = rw 1e-9_is (any_width w s p s+ h k)
