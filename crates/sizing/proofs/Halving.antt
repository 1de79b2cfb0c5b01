-- To halve a cell size is exact, and what is K times the size is 2 K times its half; a quotient by the half is twice the quotient. Assumes nothing.
use Rattle.std.proofs.Common.{◌≡◌, ℕ, zero, suc, ◌+◌, ◌-◌, ◌*◌, ◌/◌, ◌^◌, ◌<◌, ◌≤◌, true, false, T, ℤ, pos, negsuc, sym, refl, ap, ◌∙◌, subst, le_trans, le_of_eq, le_of_lt, lt_irrefl, mul-le-mul_right, mul_assoc, lt_of_mul-lt-mul_right, mul-le-mul_left, mul-lt-mul_of_pos_right, mul-pos, one-mul, pow-suc, mul-one, le_of_mul-le-mul_right, arith, lit<, lit≤, ltb→lt, pow_pos, pow-add}
use native.Mathlib.Nat.{pow-succ'}
use lib.Ieee.{Float, nan, inf, fin, Format, binary32, binary64, prec, emax, low, size, fits, round, div, up, down}
use lib.Ieee.Fits.{down_pos, div-fits}
use lib.Ieee.Exact.{HasValue, round_exact}
use lib.Ieee.Scale.{grid, grid_scale, finite}
use lib.Ieee.Positive.{num, den, den_pos, positive, value→cross, positive_of_value}
use Rattle.numbers.proofs.Values.{fits_says, pow_le_back}
use Rattle.numbers.proofs.FloatQuotient.{num_pos}
use Rattle.sizing.specs.Size.{half}
use Rattle.sizing.proofs.Constants.{two, two_is}
use Rattle.numbers.proofs.FloatFractions.{nonneg, own_value, nonneg_of_positive, div_at, round_value, Times}

-- ---- 2 ^ e / 2 is a whole number of the format's smallest values, if 2 * down e is at most 2 ^ l
low_pos : (f : Format) → 0 < low f
low_pos binary32 = lit< tt
low_pos binary64 = lit< tt

up_one : (k l : ℕ) → 0 < l → k + l ≡ suc (k + (l - 1))
up_one k l h = omega arith

back : (l k : ℕ) → suc (suc k) ≤ l → l ≡ (l - suc (suc k)) + suc (suc k)
back l k h = omega arith

shift : (l : ℕ) → 0 < l → (e : ℤ) → 2 * down e ≤ 2 ^ l → (j : ℕ) × (up e * 2 ^ l ≡ 2 ^ j * (2 * down e))
shift l h (pos k) d = (k + (l - 1), sym (pow-add 2 k l) ∙ ap (λ (z : ℕ). 2 ^ z) (up_one k l h) ∙ pow-suc 2 (k + (l - 1)))
shift l h (negsuc k) d =
    let j = l - suc (suc k) in
    let g : suc (suc k) ≤ l = pow_le_back (suc (suc k)) l (le_trans (le_of_eq (pow-succ' 2 (suc k))) d) in
    (j, one-mul (2 ^ l) ∙ ap (λ (z : ℕ). 2 ^ z) (back l k g) ∙ pow-add 2 j (suc (suc k)) ∙ ap (λ (z : ℕ). 2 ^ j * z) (pow-succ' 2 (suc k)))

under_top : (x d t l u : ℕ) → 0 < d → u * l ≡ x * (2 * d) → u < t * d → 0 < l → x < l * t
under_top x d t l u D e h L =
    let a : u * l < t * d * l = mul-lt-mul_of_pos_right h L in
    let b : x * 2 * d < l * t * d = omega arith in
    omega (arith, lt_of_mul-lt-mul_right d b)

half_round : (f : Format) (m : ℕ) (e : ℤ) → 0 < m → T (fits f (fin false m e)) → 2 * down e ≤ 2 ^ low f → HasValue (round f false (m * up e) (2 * down e)) false (m * up e) (2 * down e)
half_round f zero e M t h = absurd (lt_irrefl 0 M)
half_round f (suc n) e M t h =
    let m = suc n in
    let p = fits_says f false n e t in
    let s = shift (low f) (low_pos f) e h in
    let j = s.0 in
    let q : m * up e * 2 ^ low f ≡ m * 2 ^ j * (2 * down e) = mul_assoc m (up e) (2 ^ low f) ∙ ap (λ (z : ℕ). m * z) s.1 ∙ sym (mul_assoc m (2 ^ j) (2 * down e)) in
    round_exact f false (m * up e) (2 * down e) m j (mul-pos (lit< tt) (down_pos e)) p.0
    (subst (λ (z : ℕ). m * 2 ^ j < z) (sym (pow-add 2 (low f) (suc (emax f)))) (under_top (m * 2 ^ j) (down e) (2 ^ suc (emax f)) (2 ^ low f) (m * up e) (down_pos e) q p.2 (pow_pos (low f))))
    q

-- ---- what is not too small can be halved

two_le_low : (f : Format) → 2 * 1 ≤ 2 ^ low f
two_le_low binary32 = lit≤ tt
two_le_low binary64 = lit≤ tt

-- a value that fits and is at least X / dx has not too low an exponent
scale : (d m p X dx l : ℕ) → 0 < X → X * d ≤ m * 1 * dx → m ≤ p → 2 * p * dx ≤ l * X → 2 * d ≤ l
scale d m p X dx l pX a b c =
    let u : 2 * d * X ≤ l * X = omega (arith, mul-le-mul_right dx b) in
    le_of_mul-le-mul_right u pX

pub low_enough : (f : Format) (s : Float) (X dx : ℕ) → T (positive s) → T (fits f s) → 0 < X → X * den s ≤ num s * dx → 2 * 2 ^ prec f * dx ≤ 2 ^ low f * X → 2 * den s ≤ 2 ^ low f
low_enough f nan X dx p t pX h k = absurd p
low_enough f (inf b) X dx p t pX h k = absurd p
low_enough f (fin true m e) X dx p t pX h k = absurd p
low_enough f (fin false m (pos j)) X dx p t pX h k = two_le_low f
low_enough f (fin false zero (negsuc j)) X dx p t pX h k = absurd p
low_enough f (fin false (suc m) (negsuc j)) X dx p t pX h k = scale (2 ^ suc j) (suc m) (2 ^ prec f) X dx (2 ^ low f) pX h (le_of_lt (fits_says f false m (negsuc j) t).0) k

-- ---- s / 2, exactly, for a divisor b that is 2
module _ (f : Format) (b : Float) (b+ : T (positive b)) (b-is : HasValue b false 2 1) where
  pub half_value : (s : Float) → T (positive s) → T (fits f s) → 2 * den s ≤ 2 ^ low f → HasValue (div f s b) false (num s) (2 * den s)
  half_value nan p t h = absurd p
  half_value (inf b) p t h = absurd p
  half_value (fin true m e) p t h = absurd p
  half_value (fin false m e) p t h =
      subst (λ (z : Float). HasValue z false (m * up e) (2 * down e))
      (sym (div_at f (fin false m e) b (m * up e) (down e) 2 1 b+ (down_pos e) (lit< tt) (refl, refl) b-is ∙ ap (λ (z : ℕ). round f false z (2 * down e)) (mul-one (m * up e))))
      (half_round f m e (ltb→lt 0 m p) t h)

  -- x / s and x / (s / 2), rounded, in units: the second is twice the first
  module _ (x s : Float) (x+ : T (nonneg x)) (s+ : T (positive s)) (s-fits : T (fits f s)) (s-low : 2 * den s ≤ 2 ^ low f) where
    abbrev quot : ℕ
    quot = grid f (num x * den s) (num s * den x)

    abbrev bottom : 0 < num s * den x
    bottom = mul-pos (num_pos s s+) (den_pos x)

    one_is : div f x s ≡ round f false (num x * den s) (num s * den x)
    one_is = div_at f x s (num x) (den x) (num s) (den s) s+ (den_pos x) (num_pos s s+) (own_value x x+) (own_value s (nonneg_of_positive s s+))

    times_two : (a d : ℕ) → a * (2 * d) ≡ a * d * 2 ^ 1
    times_two a d = omega arith

    half_pos : T (positive (div f s b))
    half_pos = positive_of_value (div f s b) (num s) (2 * den s) (half_value s s+ s-fits s-low) (num_pos s s+)

    twice_is : div f x (div f s b) ≡ round f false (num x * den s * 2 ^ 1) (num s * den x)
    twice_is =
        div_at f x (div f s b) (num x) (den x) (num s) (2 * den s) half_pos (den_pos x) (num_pos s s+) (own_value x x+) (half_value s s+ s-fits s-low)
        ∙ ap (λ (z : ℕ). round f false z (num s * den x)) (times_two (num x) (den s))

    pub one_value : T (finite (div f x s)) → HasValue (div f x s) false quot (2 ^ low f)
    one_value t = subst (λ (z : Float). HasValue z false quot (2 ^ low f)) (sym one_is) (round_value f (num x * den s) (num s * den x) (subst (λ (z : Float). T (finite z)) one_is t))

    -- in the normal range
    module _ (normal : prec f ≤ size (num x * den s * 2 ^ low f / (num s * den x))) (fine : T (finite (div f x (div f s b)))) where
      pub twice_value : HasValue (div f x (div f s b)) false (quot * 2) (2 ^ low f)
      twice_value =
          let a = num x * den s in
          let c = num s * den x in
          subst (λ (z : ℕ). HasValue (div f x (div f s b)) false z (2 ^ low f)) (grid_scale f a c 1 bottom normal)
          (subst (λ (z : Float). HasValue z false (grid f (a * 2 ^ 1) c) (2 ^ low f)) (sym twice_is) (round_value f (a * 2 ^ 1) c (subst (λ (z : Float). T (finite z)) twice_is fine)))

-- ---- a cell size after halvings

-- a cell size: at least 1e-6 / j, which is 4722366482869645 / 2 ^ 72 / j, and at most 2e9
pub record Sized (j : ℕ) (s : Float) : Type 0 where
  pub above : T (positive s)
  pub held : T (fits binary64 s)
  pub least : 4722366482869645 * den s ≤ num s * (2 ^ 72 * j)
  pub most : num s ≤ 2000000000 * den s

-- S' / D' is a half of S / D
half_least : (M S D S' D' P j : ℕ) → 0 < D → S' * (2 * D) ≡ S * D' → M * D ≤ S * (P * j) → M * D' ≤ S' * (P * (2 * j))
half_least M S D S' D' P j pD e h =
    let a : M * D' * D ≤ S' * (P * (2 * j)) * D = omega (arith, mul-le-mul_right D' h, ap (λ (z : ℕ). z * (P * j)) e) in
    le_of_mul-le-mul_right a pD

half_most : (K S D S' D' : ℕ) → 0 < D → S' * (2 * D) ≡ S * D' → S ≤ K * D → S' ≤ K * D'
half_most K S D S' D' pD e h =
    let a : S' * 2 * D ≤ K * D' * D = omega (arith, mul-le-mul_right D' h) in
    let b : S' * 2 ≤ K * D' = le_of_mul-le-mul_right a pD in
    omega arith

half_times : (X dX K S D S' D' : ℕ) → 0 < D → S' * (2 * D) ≡ S * D' → X * D ≤ K * S * dX → X * D' ≤ 2 * K * S' * dX
half_times X dX K S D S' D' pD e h =
    let a : X * D' * D ≤ 2 * K * S' * dX * D = omega (arith, mul-le-mul_right D' h, ap (λ (z : ℕ). K * dX * z) e) in
    le_of_mul-le-mul_right a pD

module _ (j : ℕ) (s : Float) (z : Sized j s) (few : j ≤ 2) where
  enough : 4722366482869645 * den s ≤ num s * 2 ^ 73
  enough = le_trans z.least (mul-le-mul_left (num s) (mul-le-mul_left (2 ^ 72) few))

  pub half_low : 2 * den s ≤ 2 ^ 1074
  half_low = low_enough binary64 s 4722366482869645 (2 ^ 73) z.above z.held (lit< tt) enough (lit≤ tt)

  pub half_is : HasValue (half s) false (num s) (2 * den s)
  unfolding half
  half_is = rw two_is (half_value binary64 two tt (refl, refl) s z.above z.held half_low)

  cross : num (half s) * (2 * den s) ≡ num s * den (half s)
  cross = value→cross (half s) (num s) (2 * den s) half_is

  half_held : T (fits binary64 (half s))
  unfolding half
  half_held = div-fits binary64 s (round binary64 false 2 1)

  pub half_sized : Sized (2 * j) (half s)
  half_sized =
      let h = half s in
      record {
        above = positive_of_value h (num s) (2 * den s) half_is (num_pos s z.above);
        held = half_held;
        least = half_least 4722366482869645 (num s) (den s) (num h) (den h) (2 ^ 72) j (den_pos s) cross z.least;
        most = half_most 2000000000 (num s) (den s) (num h) (den h) (den_pos s) cross z.most;
      }

  pub times_half : (x : Float) (K : ℕ) → Times x s K → Times x (half s) (2 * K)
  times_half x K h = let t = half s in half_times (num x) (den x) K (num s) (den s) (num t) (den t) (den_pos s) cross h
