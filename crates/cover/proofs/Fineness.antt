-- The error of a fine coordinate. A distance a / c is rounded, divided by the fine unit and rounded again, and cut: the whole number that comes of it is at
-- most 1 above and less than 2 below the exact quotient. It keeps order, and it is one number for all ways to write a / c. Assumes nothing.
use mathlib.Core.Path.{◌≡◌, ap, ◌∙◌}
use mathlib.Core.Bool.{true, false, true≢false}
use Prim.Native.Nat.{ℕ, ◌+◌, ◌-◌, ◌*◌, ◌/◌, ◌^◌, ◌≤◌, ◌<◌, min}
use native.Mathlib.Nat.{le_trans, mul-le-mul_right, le_of_mul-le-mul_right, mul-pos, div-mul-le_self, div-lt_iff_lt-mul, le-div_iff_mul-le, min-eq_left}
use native.Mathlib.Omega.{arith}
use lib.Dec.{T, lit≤, lit<}
use lib.Pow.{pow_pos, le_ones}
use lib.Ieee.{Float, nan, inf, fin, Format, prec, low, up, down, round, div, to_unsigned}
use lib.Ieee.Exact.{HasValue}
use lib.Ieee.Fits.{down_pos}
use lib.Ieee.Nearest.{div_same}
use lib.Ieee.Order.{round_mono}
use lib.Ieee.Back.{round_whole}
use lib.Ieee.Scale.{grid, finite}
use lib.Ieee.Positive.{num, den, positive}
use Rattle.numbers.proofs.Rounding.{half, over_by, under_by}
use Rattle.numbers.proofs.FloatQuotient.{num_pos}
use Rattle.numbers.proofs.FloatFractions.{nonneg_of_value, nonneg_of_positive, own_value, div_at, round_value, finite_under, values_of_le}
use Rattle.cover.proofs.Slope.{cut_over}
use Rattle.cover.proofs.Offsets.{fine_at}

-- ---- a value, cut to a whole number

cut_value : (w : ℕ) (x : Float) (a c : ℕ) → 0 < c → a < 2 ^ w * c → HasValue x false a c → to_unsigned w x ≡ a / c
unfolding to_unsigned
cut_value w nan a c C l h = absurd h
cut_value w (inf s) a c C l h = absurd h
cut_value w (fin true m e) a c C l h = absurd (true≢false h.0)
cut_value w (fin false m e) a c C l h =
    let same : m * up e / down e ≡ a / c = div_same (m * up e) (down e) a c (down_pos e) C h.1 in
    ap (λ (z : ℕ). min z (2 ^ w - 1)) same ∙ min-eq_left (le_ones w ((div-lt_iff_lt-mul C).1 l))

-- ---- over plain numbers: the distance is a / c, g / l rounded; the fine unit N / E; the quotient r / l rounded

-- one rounding of a number up to 2 ^ 33 * n is off by at most a hundredth of n
off : (p s y n : ℕ) → p * 1099511627776 ≤ s * 1099511627776 + s + 1099511627776 * y → 1000 * y ≤ n → s ≤ 8589934592 * n → 100 * p ≤ 100 * s + n
off p s y n a b d = omega arith

off' : (p s y n : ℕ) → s * 1099511627776 ≤ p * 1099511627776 + s + 1099511627776 * y → 1000 * y ≤ n → s ≤ 8589934592 * n → 100 * s ≤ 100 * p + n
off' p s y n a b d = omega arith

module _ (a c g l N E r : ℕ) (C : 0 < c) (L : 1000 ≤ l) (NP : 0 < N)
    (o1 : g * c * 1099511627776 ≤ a * l * 1099511627776 + a * l + 1099511627776 * c)
    (u1 : a * l * 1099511627776 ≤ g * c * 1099511627776 + a * l + 1099511627776 * c)
    (big : 1000 * E ≤ N * l) (bound : a * E ≤ 4294967296 * (N * c)) where
  abbrev p : ℕ
  p = g * E * c

  abbrev s : ℕ
  s = a * E * l

  abbrev n : ℕ
  n = N * c * l

  y_small : 1000 * (c * E) ≤ n
  y_small = omega (arith, mul-le-mul_right c big)

  t_small : 1000 * (N * c) ≤ n
  t_small = omega (arith, mul-le-mul_right (N * c) L)

  s_small : s ≤ 4294967296 * n
  s_small = omega (arith, mul-le-mul_right l bound)

  p_over : 100 * p ≤ 100 * s + n
  p_over =
      let h : p * 1099511627776 ≤ s * 1099511627776 + s + 1099511627776 * (c * E) = omega (arith, mul-le-mul_right E o1) in
      let k = s_small in
      off p s (c * E) n h y_small (omega arith)

  p_under : 100 * s ≤ 100 * p + n
  p_under =
      let h : s * 1099511627776 ≤ p * 1099511627776 + s + 1099511627776 * (c * E) = omega (arith, mul-le-mul_right E u1) in
      let k = s_small in
      off' p s (c * E) n h y_small (omega arith)

  p_small : p ≤ 8589934592 * n
  p_small = let k = s_small in let h = p_over in omega arith

  -- the quotient, exact, is at most 2 ^ 33
  pub quot_small : g * E ≤ 8589934592 * (N * l)
  quot_small =
      let k = p_small in
      let z : g * E * c ≤ 8589934592 * (N * l) * c = omega arith in
      le_of_mul-le-mul_right z C

  module _ (o2 : r * (N * l) * 1099511627776 ≤ g * E * l * 1099511627776 + g * E * l + 1099511627776 * (N * l))
      (u2 : g * E * l * 1099511627776 ≤ r * (N * l) * 1099511627776 + g * E * l + 1099511627776 * (N * l)) where
    abbrev m : ℕ
    m = r * N * c

    m_over : 100 * m ≤ 100 * p + n
    m_over =
        let h0 : (m * 1099511627776) * l ≤ (p * 1099511627776 + p + 1099511627776 * (N * c)) * l = omega (arith, mul-le-mul_right c o2) in
        off m p (N * c) n (le_of_mul-le-mul_right h0 (le_trans (lit≤ tt) L)) t_small p_small

    m_under : 100 * p ≤ 100 * m + n
    m_under =
        let h0 : (p * 1099511627776) * l ≤ (m * 1099511627776 + p + 1099511627776 * (N * c)) * l = omega (arith, mul-le-mul_right c u2) in
        off' m p (N * c) n (le_of_mul-le-mul_right h0 (le_trans (lit≤ tt) L)) t_small p_small

    pub cut_small : r ≤ 17179869184 * l
    cut_small =
        let h = m_over in
        let k = p_small in
        let z : r * (N * c) ≤ 17179869184 * l * (N * c) = omega arith in
        le_of_mul-le-mul_right z (mul-pos NP C)

    pub near_over : (x : ℕ) → x * l ≤ r → x * (N * c) ≤ a * E + N * c
    near_over x h =
        let h' : x * l * (N * c) ≤ r * (N * c) = mul-le-mul_right (N * c) h in
        let k = m_over in
        let k' = p_over in
        let z : x * (N * c) * l ≤ (a * E + N * c) * l = omega arith in
        le_of_mul-le-mul_right z (le_trans (lit≤ tt) L)

    pub near_under : (x : ℕ) → r ≤ (x + 1) * l → a * E ≤ (x + 2) * (N * c)
    near_under x h =
        let h' : r * (N * c) ≤ (x + 1) * l * (N * c) = mul-le-mul_right (N * c) h in
        let k = m_under in
        let k' = p_under in
        let z : a * E * l ≤ (x + 2) * (N * c) * l = omega arith in
        le_of_mul-le-mul_right z (le_trans (lit≤ tt) L)

-- ---- the fine coordinate of a distance a / c, by the fine unit d

-- U / D lies from x - 1 to x + 2
pub record Near (U D x : ℕ) : Type 0 where
  pub over : x * D ≤ U + D
  pub under : U ≤ (x + 2) * D

-- what is asked of the format and of the fine size
pub record Sized (f : Format) (d : Float) : Type 0 where
  pub above : T (positive d)
  pub big : 1000 * den d ≤ num d * 2 ^ low f
  pub wide : 1099511627776 ≤ 2 * half f
  pub deep : 1000 ≤ 2 ^ low f
  pub holds : 8589934592 ≤ 2 ^ prec f

by_one : (x y : ℕ) → x ≤ y → x * 1 ≤ y
by_one x y h = omega arith

fits_64 : (r l : ℕ) → 0 < l → r ≤ 17179869184 * l → r < 18446744073709551616 * l
fits_64 r l L h = omega arith

module _ (f : Format) (d : Float) (z : Sized f d) (a c : ℕ) (C : 0 < c) (fine : T (finite (round f false a c))) (bound : a * den d ≤ 4294967296 * (num d * c)) where
  abbrev l : ℕ
  l = 2 ^ low f

  abbrev G : ℕ
  G = grid f a c

  abbrev R : ℕ
  R = grid f (grid f a c * den d) (num d * 2 ^ low f)

  NP : 0 < num d
  NP = num_pos d z.above

  D2 : 0 < num d * l
  D2 = mul-pos NP (pow_pos (low f))

  o1 : G * c * 1099511627776 ≤ a * l * 1099511627776 + a * l + 1099511627776 * c
  o1 = over_by f a c C 1099511627776 z.wide

  u1 : a * l * 1099511627776 ≤ G * c * 1099511627776 + a * l + 1099511627776 * c
  u1 = under_by f a c C 1099511627776 z.wide

  o2 : R * (num d * l) * 1099511627776 ≤ G * den d * l * 1099511627776 + G * den d * l + 1099511627776 * (num d * l)
  o2 = over_by f (G * den d) (num d * l) D2 1099511627776 z.wide

  u2 : G * den d * l * 1099511627776 ≤ R * (num d * l) * 1099511627776 + G * den d * l + 1099511627776 * (num d * l)
  u2 = under_by f (G * den d) (num d * l) D2 1099511627776 z.wide

  q_is : div f (round f false a c) d ≡ round f false (G * den d) (num d * l)
  q_is = div_at f (round f false a c) d G l (num d) (den d) z.above (pow_pos (low f)) NP (round_value f a c fine) (own_value d (nonneg_of_positive d z.above))

  top_is : HasValue (round f false 8589934592 1) false 8589934592 1
  top_is = round_whole f false 8589934592 z.holds

  q_finite : T (finite (round f false (G * den d) (num d * l)))
  q_finite =
      finite_under f (G * den d) (num d * l) (round f false 8589934592 1) D2 (nonneg_of_value (round f false 8589934592 1) 8589934592 1 top_is)
      (round_mono f (G * den d) (num d * l) 8589934592 1 D2 (lit< tt) (by_one (G * den d) (8589934592 * (num d * l)) (quot_small a c G l (num d) (den d) 0 C z.deep NP o1 u1 z.big bound)))

  pub q_value : HasValue (round f false (G * den d) (num d * l)) false R l
  q_value = round_value f (G * den d) (num d * l) q_finite

  pub fine_is : fine_at f d a c ≡ R / l
  unfolding fine_at
  fine_is =
      rw q_is
      (cut_value 64 (round f false (G * den d) (num d * l)) R l (pow_pos (low f))
      (fits_64 R l (pow_pos (low f)) (cut_small a c G l (num d) (den d) R C z.deep NP o1 u1 z.big bound o2 u2)) q_value)

  pub near : Near (a * den d) (num d * c) (fine_at f d a c)
  near = rw fine_is (record {
    over = near_over a c G l (num d) (den d) R C z.deep NP o1 u1 z.big bound o2 u2 (R / l) (div-mul-le_self R l);
    under = near_under a c G l (num d) (den d) R C z.deep NP o1 u1 z.big bound o2 u2 (R / l) (cut_over R l (pow_pos (low f)));
  })

-- ---- it keeps order

div_mono : (x y k : ℕ) → 0 < k → x ≤ y → x / k ≤ y / k
div_mono x y k H h = (le-div_iff_mul-le H).1 (le_trans (div-mul-le_self x k) h)

module _ (f : Format) (d : Float) (z : Sized f d) (a c a' c' : ℕ) (C : 0 < c) (C' : 0 < c')
    (fine : T (finite (round f false a c))) (fine' : T (finite (round f false a' c')))
    (bound : a * den d ≤ 4294967296 * (num d * c)) (bound' : a' * den d ≤ 4294967296 * (num d * c')) (h : a * c' ≤ a' * c) where
  abbrev w : ℕ
  w = 2 ^ low f

  W : 0 < w
  W = pow_pos (low f)

  ND : 0 < num d * w
  ND = mul-pos (num_pos d z.above) W

  first : grid f a c ≤ grid f a' c'
  first =
      le_of_mul-le-mul_right
      (values_of_le (round f false a c) (round f false a' c') (grid f a c) w (grid f a' c') w (round_value f a c fine) (round_value f a' c' fine') (round_mono f a c a' c' C C' h)) W

  second : grid f (grid f a c * den d) (num d * w) ≤ grid f (grid f a' c' * den d) (num d * w)
  second =
      let x = grid f a c * den d in
      let x' = grid f a' c' * den d in
      le_of_mul-le-mul_right
      (values_of_le (round f false x (num d * w)) (round f false x' (num d * w)) (grid f x (num d * w)) w (grid f x' (num d * w)) w
      (q_value f d z a c C fine bound) (q_value f d z a' c' C' fine' bound')
      (round_mono f x (num d * w) x' (num d * w) ND ND (mul-le-mul_right (num d * w) (mul-le-mul_right (den d) first)))) W

  pub fine_mono : fine_at f d a c ≤ fine_at f d a' c'
  fine_mono =
      rw (fine_is f d z a c C fine bound, fine_is f d z a' c' C' fine' bound')
      (div_mono (grid f (grid f a c * den d) (num d * w)) (grid f (grid f a' c' * den d) (num d * w)) w W second)
