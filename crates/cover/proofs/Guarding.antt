-- The guard: an end is not below the low side of the grid, and its quotient by the fine unit is below 4,095 cells. Then its exact distance is below 2^32
-- fine units, and what the code's cut asks holds. Assumes nothing.
use mathlib.Core.Path.{◌≡◌, refl, sym, subst}
use mathlib.Core.Logic.{inl, inr}
use mathlib.Core.Bool.{true, false}
use Prim.Native.Nat.{ℕ, ◌+◌, ◌-◌, ◌*◌, ◌/◌, ◌^◌, ◌≤◌, ◌<◌, min}
use native.Mathlib.Nat.{le_trans, le_of_lt, mul-le-mul_right, le_of_mul-le-mul_right, mul-pos, div-lt_iff_lt-mul}
use native.Mathlib.Omega.{arith}
use lib.Dec.{T, ltb→lt, lit≤, lit<}
use lib.Pow.{pow_pos}
use lib.Ieee.{Float, nan, inf, fin, Format, up, down, low, round, neg, add, sub, div, le, lt, to_unsigned}
use lib.Ieee.Exact.{HasValue}
use lib.Ieee.Order.{round_mono}
use lib.Ieee.Back.{round_whole}
use lib.Ieee.Fits.{down_pos}
use lib.Ieee.Scale.{finite, grid}
use lib.Ieee.Positive.{num, den, positive}
use Rattle.slices.proofs.Laws.{le_or}
use Rattle.numbers.specs.Floor.{clamped_floor}
use Rattle.numbers.proofs.Tests.{holds}
use Rattle.numbers.proofs.Rounding.{under_by}
use Rattle.numbers.proofs.FloatQuotient.{num_pos}
use Rattle.numbers.proofs.FloatFractions.{nonneg, clear, round_clear, nonneg_of_positive, own_value, values_of_le, round_value, div_at}
use Rattle.grid.specs.declared.Axis.{Axis}
use Rattle.grid.proofs.Bools.{and_left, and_right}
use Rattle.cover.specs.Fine.{units_on, fine_on, limit, near_on}
use Rattle.cover.proofs.Fineness.{Sized}
use Rattle.cover.proofs.Offsets.{Apart, sub_is, none}
use Rattle.cover.proofs.ExactPoints.{Within}

-- ---- a quotient below the limit

pub lt_finite : (x : Float) → T (clear x) → T (lt x limit) → T (nonneg x)
unfolding lt
lt_finite nan c h = absurd h
lt_finite (inf true) c h = absurd c
lt_finite (inf false) c h = absurd h
lt_finite (fin true m e) c h = absurd c
lt_finite (fin false m e) c h = tt

pub lt→cross : (x : Float) → T (nonneg x) → T (lt x limit) → num x < 4293918720 * den x
unfolding lt
lt→cross nan c h = absurd c
lt→cross (inf s) c h = absurd c
lt→cross (fin true m e) c h = absurd c
lt→cross (fin false m e) c h = go (m * up e) (down e) (ltb→lt (m * up e * 1) (4095 * 1048576 * down e) h)
  where
    go : (x d : ℕ) → x * 1 < 4095 * 1048576 * d → x < 4293918720 * d
    go x d k = omega arith

pub inf_out : (f : Format) (x d : Float) → T (clear x) → T (positive d) → T (lt (div f x d) limit) → T (finite x)
unfolding div lt
inf_out f nan d c p h = absurd c
inf_out f (inf true) d c p h = absurd c
inf_out f (inf false) nan c p h = absurd p
inf_out f (inf false) (inf t) c p h = absurd p
inf_out f (inf false) (fin true n e) c p h = absurd p
inf_out f (inf false) (fin false n e) c p h = absurd h
inf_out f (fin s m e) d c p h = tt

-- from the rounded offset back to the exact one
back_half : (p s y : ℕ) → s * 1099511627776 ≤ p * 1099511627776 + s + 1099511627776 * y → 8192 * s ≤ 8193 * p + 8193 * y
back_half p s y a = omega arith

back_sum : (p s y n : ℕ) → 8192 * s ≤ 8193 * p + 8193 * y → 1000 * y ≤ n → p ≤ 4293918720 * n → s ≤ 4294967294 * n
back_sum p s y n a b d = omega arith

back_to : (p s y n : ℕ) → s * 1099511627776 ≤ p * 1099511627776 + s + 1099511627776 * y → 1000 * y ≤ n → p ≤ 4293918720 * n → s ≤ 4294967294 * n
back_to p s y n a b d = back_sum p s y n (back_half p s y a) b d

back_all : (a c g l N E : ℕ) → 0 < l → a * l * 1099511627776 ≤ g * c * 1099511627776 + a * l + 1099511627776 * c → 1000 * E ≤ N * l → g * E ≤ 4293918720 * (N * l) → a * E ≤ 4294967294 * (N * c)
back_all a c g l N E L u b h =
    let k : a * E * l * 1099511627776 ≤ g * E * c * 1099511627776 + a * E * l + 1099511627776 * (c * E) = omega (arith, mul-le-mul_right E u) in
    let y : 1000 * (c * E) ≤ N * c * l = omega (arith, mul-le-mul_right c b) in
    let p : g * E * c ≤ 4293918720 * (N * c * l) = omega (arith, mul-le-mul_right c h) in
    let t = back_to (g * E * c) (a * E * l) (c * E) (N * c * l) k y p in
    let t' : a * E * l ≤ 4294967294 * (N * c) * l = omega arith in
    le_of_mul-le-mul_right t' L

module _ (f : Format) (d : Float) (z : Sized f d) (a c : ℕ) (C : 0 < c) where
  module _ (h : T (lt (div f (round f false a c) d) limit)) where
    x_fine : T (finite (round f false a c))
    x_fine = inf_out f (round f false a c) d (round_clear f a c) z.above h

    abbrev g : ℕ
    g = grid f a c

    abbrev l : ℕ
    l = 2 ^ low f

    q_is : div f (round f false a c) d ≡ round f false (g * den d) (num d * l)
    q_is = div_at f (round f false a c) d g l (num d) (den d) z.above (pow_pos (low f)) (num_pos d z.above) (round_value f a c x_fine) (own_value d (nonneg_of_positive d z.above))

    abbrev X : Float
    X = round f false (g * den d) (num d * l)

    abbrev B : Float
    B = round f false 4293918720 1

    ND : 0 < num d * l
    ND = mul-pos (num_pos d z.above) (pow_pos (low f))

    X_near : T (lt X limit)
    X_near = rw q_is at h

    X+ : T (nonneg X)
    X+ = lt_finite X (round_clear f (g * den d) (num d * l)) X_near

    B_is : HasValue B false 4293918720 1
    B_is = round_whole f false 4293918720 (le_trans (lit≤ tt) z.holds)

    beyond : 4293918720 * (num d * l) < g * den d → ⊥
    beyond k =
        let m : T (le B X) = round_mono f 4293918720 1 (g * den d) (num d * l) (lit< tt) ND (more (4293918720 * (num d * l)) (g * den d) (le_of_lt k)) in
        apart (num X) (den X) (values_of_le B X 4293918720 1 (num X) (den X) B_is (own_value X X+) m) (lt→cross X X+ X_near)
      where
        more : (x y : ℕ) → x ≤ y → x ≤ y * 1
        more x y h = omega arith

        apart : (x y : ℕ) → 4293918720 * y ≤ x * 1 → x < 4293918720 * y → ⊥
        apart x y a b = omega arith

    small : g * den d ≤ 4293918720 * (num d * l)
    small = elim (le_or (g * den d) (4293918720 * (num d * l))) [
      | inl k ↦ k
      | inr k ↦ absurd (beyond k)
    ]

    within_round : Within f d a c
    within_round = record { fine = x_fine; bound = back_all a c g l (num d) (den d) (pow_pos (low f)) (under_by f a c C 1099511627776 z.wide) z.big small }

  within_zero : a ≡ 0 → Within f d a c
  within_zero e = record { fine = subst (λ (x : ℕ). T (finite (round f false x c))) (sym e) (rw (none f c C) tt); bound = rw e (omega arith) }

-- ---- from the code's test

pub within_of : (f : Format) (d : Float) (z : Sized f d) (m x : Float) (a c : ℕ) → 0 < c → Apart x m a c → T (lt (div f (sub f x m) d) limit) → Within f d a c
within_of f d z m x a c C p h = elim (sub_is f x m a c C p) [
  | inl e ↦ within_round f d z a c C (subst (λ (v : Float). T (lt (div f v d) limit)) e h)
  | inr k ↦ within_zero f d z a c C k.1
]

-- what is not finite does not pass
pub known_of : (f : Format) (d m x : Float) → T (finite m) → T (positive d) → T (le m x) → T (lt (div f (sub f x m) d) limit) → T (finite x)
unfolding le lt sub add neg div
known_of f d nan x p q h k = absurd p
known_of f d (inf s) x p q h k = absurd p
known_of f d (fin s n e) nan p q h k = absurd h
known_of f d (fin s n e) (inf true) p q h k = absurd h
known_of f nan (fin s n e) (inf false) p q h k = absurd q
known_of f (inf t) (fin s n e) (inf false) p q h k = absurd q
known_of f (fin true n' e') (fin s n e) (inf false) p q h k = absurd q
known_of f (fin false n' e') (fin s n e) (inf false) p q h k = absurd k
known_of f d (fin s n e) (fin t n' e') p q h k = tt

-- ---- the cut: 0 for what is not above zero; and of what is above zero and below the limit, what the cut of the code asks

-- such a quotient has 32 bits: the clamped floor does not clamp it
pub cut_clamped : (v : Float) → T (lt v limit) → clamped_floor v 4294967295 ≡ to_unsigned 64 v
unfolding lt to_unsigned clamped_floor
cut_clamped nan p = absurd p
cut_clamped (inf true) p = refl
cut_clamped (inf false) p = absurd p
cut_clamped (fin true m e) p = refl
cut_clamped (fin false m e) p = go (m * up e) (down e) (down_pos e) (ltb→lt (m * up e * 1) (4095 * 1048576 * down e) p)
  where
    less_than : (x d : ℕ) → x * 1 < 4095 * 1048576 * d → x < 4293918720 * d
    less_than x d h = omega arith

    go : (x d : ℕ) → 0 < d → x * 1 < 4095 * 1048576 * d → min (x / d) (4294967295 - 1) ≡ min (x / d) (2 ^ 64 - 1)
    go x d D h = let k : x / d < 4293918720 = (div-lt_iff_lt-mul D).1 (less_than x d h) in omega arith

cut_below : (v : Float) → T (lt v limit) → to_unsigned 64 v < 4294967296
unfolding lt to_unsigned
cut_below nan p = absurd p
cut_below (inf true) p = lit< tt
cut_below (inf false) p = absurd p
cut_below (fin true m e) p = lit< tt
cut_below (fin false m e) p = go (m * up e) (down e) (down_pos e) (ltb→lt (m * up e * 1) (4095 * 1048576 * down e) p)
  where
    less_than : (x d : ℕ) → x * 1 < 4095 * 1048576 * d → x < 4293918720 * d
    less_than x d h = omega arith

    go : (x d : ℕ) → 0 < d → x * 1 < 4095 * 1048576 * d → min (x / d) (2 ^ 64 - 1) < 4294967296
    go x d D h = let k : x / d < 4293918720 = (div-lt_iff_lt-mul D).1 (less_than x d h) in omega arith

-- ---- the guard of an axis

module _ (a : Axis) (v : Float) (h : near_on a v ≡ true) where
  pub near_le : T (le a.low v)
  unfolding near_on
  near_le = holds (le a.low v) (and_left (le a.low v) (lt (units_on a v) limit) h)

  pub near_lt : T (lt (units_on a v) limit)
  unfolding near_on
  near_lt = holds (lt (units_on a v) limit) (and_right (le a.low v) (lt (units_on a v) limit) h)

  pub fine_small : fine_on a v < 4294967296
  unfolding fine_on
  fine_small = cut_below (units_on a v) near_lt
