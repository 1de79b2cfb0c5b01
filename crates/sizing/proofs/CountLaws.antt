-- How many cells of a size a width takes: from 1 to 1,001 times j for a size after halvings by j, and at most twice as many for the half. Assumes nothing.
use Rattle.std.proofs.Common.{◌≡◌, ℕ, ◌*◌, ◌/◌, ◌^◌, ◌<◌, ◌≤◌, true, false, T, negsuc, sym, refl, subst, le_trans, le_of_eq, mul-le-mul_right, mul_assoc, mul-le-mul_left, mul-pos, mul-one, le_of_mul-le-mul_right, arith, lit<, lit≤, pow_pos}
use lib.Ieee.{Float, nan, inf, fin, binary64, size, round, div, le}
use lib.Ieee.Exact.{HasValue}
use lib.Ieee.Order.{round_mono}
use lib.Ieee.Back.{round_whole}
use lib.Ieee.Scale.{grid, finite, normal_of_fraction}
use lib.Ieee.Positive.{num, den, den_pos, positive, above_of_le}
use Rattle.numbers.specs.Ceiling.{ceiling_of}
use Rattle.numbers.proofs.CeilingLaws.{ceiling_most, ceiling_some, ceiling_times}
use Rattle.sizing.specs.Size.{half}
use Rattle.sizing.specs.Counts.{count_on}
use Rattle.sizing.proofs.Constants.{two, two_is}
use Rattle.sizing.proofs.Reach.{Spans}
use Rattle.numbers.proofs.FloatQuotient.{num_pos}
use Rattle.numbers.proofs.FloatFractions.{nonneg, own_value, nonneg_of_value, nonneg_of_positive, div_at, nonneg_under, values_of_le, Times}
use Rattle.sizing.proofs.Width.{stretched, Stretched, stretched_is}
use Rattle.sizing.proofs.Halving.{Sized, half_low, half_sized, times_half, one_value, twice_value}

-- ---- the quotient of a stretched width by a size

-- x is at least M / p and s at most K, so x / s is at least 1 / r
not_tiny : (nx dx ns ds M p r K : ℕ) → 0 < M → M * dx ≤ nx * p → ns ≤ K * ds → K * p ≤ M * r → 1 * (ns * dx) ≤ nx * ds * r
not_tiny nx dx ns ds M p r K pM a b c =
    let u : M * dx * ns ≤ M * dx * (K * ds) = mul-le-mul_left (M * dx) b in
    let v : M * dx * (K * ds) ≤ nx * p * (K * ds) = mul-le-mul_right (K * ds) a in
    let w : K * p * (nx * ds) ≤ M * r * (nx * ds) = mul-le-mul_right (nx * ds) c in
    let z : 1 * (ns * dx) * M ≤ nx * ds * r * M = omega arith in
    le_of_mul-le-mul_right z pM

above_positive : (q : Float) → T (nonneg q) → T (le (fin false 1 (negsuc 61)) q) → T (positive q)
above_positive nan a b = absurd a
above_positive (inf t) a b = absurd a
above_positive (fin true m e) a b = absurd a
above_positive (fin false m e) a b = above_of_le (fin false 1 (negsuc 61)) (fin false m e) tt b

tiny_is : round binary64 false 1 (2 ^ 62) ≡ fin false 1 (negsuc 61)
unfolding round
tiny_is = refl

by_one : (x y : ℕ) → x ≤ y → x * 1 ≤ y
by_one x y h = omega arith

module _ (x s : Float) (j K : ℕ) (p : Stretched x) (z : Sized j s) (small : K ≤ 2 ^ 53) (t : Times x s K) where
  bottom : 0 < num s * den x
  bottom = mul-pos (num_pos s z.above) (den_pos x)

  quot_is : div binary64 x s ≡ round binary64 false (num x * den s) (num s * den x)
  quot_is =
      div_at binary64 x s (num x) (den x) (num s) (den s) z.above (den_pos x) (num_pos s z.above) (own_value x (nonneg_of_positive x p.above))
      (own_value s (nonneg_of_positive s z.above))

  K_is : HasValue (round binary64 false K 1) false K 1
  K_is = round_whole binary64 false K small

  quot_most : T (le (div binary64 x s) (round binary64 false K 1))
  quot_most = rw quot_is (round_mono binary64 (num x * den s) (num s * den x) K 1 bottom (lit< tt) (by_one (num x * den s) (K * (num s * den x)) (le_trans t (le_of_eq (mul_assoc K (num s) (den x))))))

  quot_clear : T (nonneg (div binary64 x s))
  quot_clear = rw quot_is (nonneg_under binary64 (num x * den s) (num s * den x) (round binary64 false K 1) bottom (nonneg_of_value (round binary64 false K 1) K 1 K_is) (rw quot_is at quot_most))

  pub quot_under : num (div binary64 x s) ≤ K * den (div binary64 x s)
  quot_under =
      let q = div binary64 x s in
      le_trans (le_of_eq (sym (mul-one (num q)))) (values_of_le q (round binary64 false K 1) (num q) (den q) K 1 (own_value q quot_clear) K_is quot_most)

  far : 1 * (num s * den x) ≤ num x * den s * 2 ^ 62
  far = not_tiny (num x) (den x) (num s) (den s) 4835703278458517 (2 ^ 82) (2 ^ 62) 2000000000 (lit< tt) p.least z.most (lit≤ tt)

  quot_above : T (positive (div binary64 x s))
  quot_above = above_positive (div binary64 x s) quot_clear (rw quot_is (subst (λ (v : Float). T (le v (round binary64 false (num x * den s) (num s * den x)))) tiny_is (round_mono binary64 1 (2 ^ 62) (num x * den s) (num s * den x) (lit< tt) bottom far)))

  pub quot_most_ceiling : ceiling_of (div binary64 x s) ≤ K
  quot_most_ceiling = let q = div binary64 x s in ceiling_most q (num q) (den q) K (den_pos q) (own_value q quot_clear) quot_under

  pub quot_some_ceiling : 1 ≤ ceiling_of (div binary64 x s)
  quot_some_ceiling = let q = div binary64 x s in ceiling_some q (num q) (den q) (den_pos q) (own_value q quot_clear) (num_pos q quot_above)

  pub quot_finite : T (finite (div binary64 x s))
  quot_finite = nonneg_finite (div binary64 x s) quot_clear
    where
      nonneg_finite : (q : Float) → T (nonneg q) → T (finite q)
      nonneg_finite nan a = absurd a
      nonneg_finite (inf u) a = absurd a
      nonneg_finite (fin u m e) a = tt

  -- it is far from where digits are lost
  pub quot_normal : 53 ≤ size (num x * den s * 2 ^ 1074 / (num s * den x))
  quot_normal = normal_of_fraction binary64 (num x * den s) (num s * den x) bottom (digits (num s * den x) (num x * den s) (2 ^ 52) (2 ^ 62) (2 ^ 1074) far (lit≤ tt))
    where
      digits : (b a h r l : ℕ) → 1 * b ≤ a * r → h * r ≤ l → h * b ≤ a * l
      digits b a h r l u v = omega (arith, mul-le-mul_left h u, mul-le-mul_left a v)

-- ---- and by its half

module _ (x s : Float) (j K : ℕ) (p : Stretched x) (z : Sized j s) (few : j ≤ 2) (small : 2 * K ≤ 2 ^ 53) (t : Times x s K) where
  small' : K ≤ 2 ^ 53
  small' = omega arith

  same_half : half s ≡ div binary64 s two
  unfolding half
  same_half = rw two_is

  pub ceiling_twice : ceiling_of (div binary64 x (half s)) ≤ 2 * ceiling_of (div binary64 x s)
  ceiling_twice =
      let y = div binary64 x s in
      let v = div binary64 x (half s) in
      let s+ = z.above in
      let x+ = nonneg_of_positive x p.above in
      let ok : T (finite v) = quot_finite x (half s) (2 * j) (2 * K) p (half_sized j s z few) small (times_half j s z few x K t) in
      let fine : T (finite (div binary64 x (div binary64 s two))) = subst (λ (h : Float). T (finite (div binary64 x h))) same_half ok in
      let q : ℕ = grid binary64 (num x * den s) (num s * den x) in
      let one : HasValue y false q (2 ^ 1074) = one_value binary64 two tt (refl, refl) x s x+ s+ z.held (half_low j s z few) (quot_finite x s j K p z small' t) in
      let twice : HasValue v false (q * 2) (2 ^ 1074) =
      subst (λ (h : Float). HasValue (div binary64 x h) false (q * 2) (2 ^ 1074)) (sym same_half)
      (twice_value binary64 two tt (refl, refl) x s x+ s+ z.held (half_low j s z few) (quot_normal x s j K p z small' t) fine) in
      ceiling_times y v q (2 ^ 1074) (q * 2) (2 ^ 1074) 2 (pow_pos 1074) (pow_pos 1074) (lit< tt) one twice (double q (2 ^ 1074))
    where
      double : (q l : ℕ) → q * 2 * l ≤ 2 * (q * l)
      double q l = omega arith

-- ---- the counts of an axis

-- an axis of this width, and the length of its cells after halvings by j: the width is at most 1,001 times j lengths
pub record Across (w : Float) (j : ℕ) (s : Float) : Type 0 where
  pub spans : Spans w
  pub sized : Sized j s
  pub times : Times (stretched w) s (1001 * j)

module _ (w s : Float) (j : ℕ) (a : Across w j s) (few : j ≤ 4) where
  small4 : 1001 * j ≤ 2 ^ 53
  small4 = omega arith

  most : ceiling_of (div binary64 (stretched w) s) ≤ 1001 * j
  most = quot_most_ceiling (stretched w) s j (1001 * j) (stretched_is w a.spans) a.sized small4 a.times

  some : 1 ≤ ceiling_of (div binary64 (stretched w) s)
  some = quot_some_ceiling (stretched w) s j (1001 * j) (stretched_is w a.spans) a.sized small4 a.times

  -- 32 bits are enough: the count is the ceiling
  pub count_exact : count_on w s ≡ ceiling_of (div binary64 (stretched w) s)
  unfolding count_on
  count_exact = let m = most in omega arith

  pub count_most : count_on w s ≤ 1001 * j
  count_most = rw count_exact most

  pub count_some : 1 ≤ count_on w s
  count_some = rw count_exact some

module _ (w s : Float) (j : ℕ) (a : Across w j s) (few : j ≤ 2) where
  pub half_across : Across w (2 * j) (half s)
  half_across =
      record {
        spans = a.spans;
        sized = half_sized j s a.sized few;
        times = subst (λ (k : ℕ). Times (stretched w) (half s) k) (omega arith) (times_half j s a.sized few (stretched w) (1001 * j) a.times);
      }

  pub count_twice : count_on w (half s) ≤ 2 * count_on w s
  count_twice =
      rw (count_exact w (half s) (2 * j) half_across (omega arith), count_exact w s j a (omega arith))
      (ceiling_twice (stretched w) s j (1001 * j) (stretched_is w a.spans) a.sized few (omega arith) a.times)
