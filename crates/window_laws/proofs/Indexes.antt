-- A fine coordinate, which goes by 2^20 units to a cell, lies in the cell of the index, which goes by cells: a multiplication by a power of two passes through
-- rounding where the result is normal, and where it is not both are in the first cell. Assumes nothing.
use mathlib.Core.Path.{◌≡◌, sym, ap, ◌∙◌, subst}
use mathlib.Core.Logic.{inl, inr}
use mathlib.Core.Bool.{false}
use Prim.Native.Nat.{ℕ, ◌+◌, ◌-◌, ◌*◌, ◌/◌, ◌^◌, ◌≤◌, ◌<◌, min}
use native.Mathlib.Nat.{mul-le-mul_left, mul-le-mul_right, le_of_mul-le-mul_right, lt_of_mul-lt-mul_right, mul-pos, le-div_iff_mul-le, div-lt_iff_lt-mul, div-eq_of_lt, eq_of_mul-eq-mul_right}
use native.Mathlib.Omega.{arith}
use lib.Dec.{T, lit<}
use lib.Pow.{pow_pos, pow_mono}
use lib.Ieee.{Float, nan, inf, fin, Format, prec, low, down, size, round, div}
use lib.Ieee.Digits.{size-lt}
use lib.Ieee.Exact.{HasValue}
use lib.Ieee.Fits.{down_pos}
use lib.Ieee.Order.{round_mono}
use lib.Ieee.Scale.{grid, finite, round_same, grid_scale}
use lib.Ieee.Positive.{num, den}
use Rattle.slices.proofs.Laws.{le_or}
use Rattle.numbers.specs.Floor.{clamped_floor}
use Rattle.numbers.proofs.Rounding.{over_by}
use Rattle.numbers.proofs.FloorLaws.{clamped_is}
use Rattle.numbers.proofs.FloatQuotient.{num_pos}
use Rattle.numbers.proofs.FloatFractions.{nonneg_of_value, nonneg_of_positive, own_value, div_at, round_value, finite_under}
use Rattle.cover.specs.Rule.{fine_cell}
use Rattle.cover.proofs.Offsets.{fine_at}
use Rattle.cover.proofs.Fineness.{Sized, q_value, fine_is}
use Rattle.cover.proofs.Passing.{Scaled}

-- ---- values

value_finite : (x : Float) (a c : ℕ) → HasValue x false a c → T (finite x)
value_finite nan a c h = absurd h
value_finite (inf s) a c h = absurd h
value_finite (fin s m e) a c h = tt

one_value : (x : Float) (a b c : ℕ) → HasValue x false a c → HasValue x false b c → a ≡ b
one_value nan a b c h k = absurd h
one_value (inf s) a b c h k = absurd h
one_value (fin s m e) a b c h k = eq_of_mul-eq-mul_right (down e) (down_pos e) a b (sym h.1 ∙ k.1)

-- ---- over plain numbers

-- 2^20 s / l, cut, and by 2^20 again
cut_back : (s l : ℕ) → 0 < l → s * 1048576 / l / 1048576 ≡ s / l
cut_back s l L =
    let K : 0 < 1048576 = lit< tt in
    let x = s * 1048576 / l in
    let up : s / l ≤ x / 1048576 = (le-div_iff_mul-le K).1 ((le-div_iff_mul-le L).1 (lower (s / l) s l ((le-div_iff_mul-le L).0 (omega arith)))) in
    let down : x / 1048576 ≤ s / l = (le-div_iff_mul-le L).1 (le_of_mul-le-mul_right (higher (x / 1048576) s l ((le-div_iff_mul-le L).0 ((le-div_iff_mul-le K).0 (omega arith)))) K) in
    omega arith
  where
    lower : (q s l : ℕ) → q * l ≤ s → q * 1048576 * l ≤ s * 1048576
    lower q s l h = omega arith

    higher : (q s l : ℕ) → q * 1048576 * l ≤ s * 1048576 → q * l * 1048576 ≤ s * 1048576
    higher q s l h = omega arith

-- what is at most a half rounds to less than 1: u is a / c in l-ths, rounded
under_one : (u a c l : ℕ) → 0 < c → 1000 ≤ l → 2 * a ≤ c → u * c * 1099511627776 ≤ a * l * 1099511627776 + a * l + 1099511627776 * c → u < l
under_one u a c l C L h k =
    let t : 2 * a * l ≤ c * l = mul-le-mul_right l h in
    let w : 2 * u * 1099511627776 * c ≤ (l * 1099511627776 + l + 2199023255552) * c = omega arith in
    let z : 2 * u * 1099511627776 ≤ l * 1099511627776 + l + 2199023255552 = le_of_mul-le-mul_right w C in
    elim (le_or l u) [
      | inl y ↦ absurd (omega arith)
      | inr y ↦ y
    ]

-- what has fewer digits than the format keeps is far below a half
few_digits : (A C l p k : ℕ) → 0 < p → A * l < k * C → k ≤ p → p * 2097152 ≤ l → 2 * (A * 1048576) ≤ C
few_digits A C l p k P h b d =
    let u : A * (p * 2097152) ≤ A * l = mul-le-mul_left A d in
    let v : k * C ≤ p * C = mul-le-mul_right C b in
    let w : A * 2097152 * p < C * p = omega arith in
    let z : A * 2097152 < C = lt_of_mul-lt-mul_right p w in
    omega arith

-- ---- a distance p / q by the cell size s, and by the fine unit d

module _ (f : Format) (s d : Float) (z : Sized f d) (e : Scaled s d) (deep : 2 ^ prec f * 2097152 ≤ 2 ^ low f) (p q : ℕ) (Q : 0 < q) (fine : T (finite (round f false p q)))
    (bound : p * den d ≤ 4294967296 * (num d * q)) where
  abbrev l : ℕ
  l = 2 ^ low f

  L : 0 < l
  L = pow_pos (low f)

  abbrev G : ℕ
  G = grid f p q

  abbrev A : ℕ
  A = grid f p q * den s

  abbrev C : ℕ
  C = num s * 2 ^ low f

  S+ : 0 < num s
  S+ = num_pos s e.size_above

  C+ : 0 < C
  C+ = mul-pos S+ L

  D+ : 0 < num d * l
  D+ = mul-pos (num_pos d e.unit_above) L

  by_cell : div f (round f false p q) s ≡ round f false A C
  by_cell = div_at f (round f false p q) s G l (num s) (den s) e.size_above L S+ (round_value f p q fine) (own_value s (nonneg_of_positive s e.size_above))

  -- the quotient by the unit is that by the size, 2^20 times
  turned : (g ds ns nd dd k : ℕ) → nd * (1048576 * ds) ≡ ns * dd → g * ds * 1048576 * (nd * k) ≡ g * dd * (ns * k)
  turned g ds ns nd dd k h = let t : nd * (1048576 * ds) * (g * k) ≡ ns * dd * (g * k) = ap (λ (x : ℕ). x * (g * k)) h in omega arith

  by_unit : round f false (A * 1048576) C ≡ round f false (G * den d) (num d * l)
  by_unit = round_same f false (A * 1048576) C (G * den d) (num d * l) C+ D+ (turned G (den s) (num s) (num d) (den d) l e.is)

  abbrev R : ℕ
  R = grid f (grid f p q * den d) (num d * 2 ^ low f)

  unit_value : HasValue (round f false (A * 1048576) C) false R l
  unit_value = subst (λ (x : Float). HasValue x false R l) (sym by_unit) (q_value f d z p q Q fine bound)

  unit_grid : R ≡ grid f (A * 1048576) C
  unit_grid =
      one_value (round f false (A * 1048576) C) R (grid f (A * 1048576) C) l unit_value
      (round_value f (A * 1048576) C (value_finite (round f false (A * 1048576) C) R l unit_value))

  less : (a c : ℕ) → a * c ≤ a * 1048576 * c
  less a c = omega arith

  cell_value : HasValue (round f false A C) false (grid f A C) l
  cell_value =
      round_value f A C
      (finite_under f A C (round f false (A * 1048576) C) C+ (nonneg_of_value (round f false (A * 1048576) C) R l unit_value)
      (round_mono f A C (A * 1048576) C C+ C+ (less A C)))

  -- where the quotient has few digits both are in the first cell
  module _ (h : size (A * l / C) < prec f) where
    small : 2 * (A * 1048576) ≤ C
    small = few_digits A C l (2 ^ prec f) (2 ^ size (A * l / C)) (pow_pos (prec f)) ((div-lt_iff_lt-mul C+).0 (size-lt (A * l / C))) (pow_mono (smaller (size (A * l / C)) (prec f) h)) deep
      where
        smaller : (x y : ℕ) → x < y → x ≤ y
        smaller x y k = omega arith

    none_fine : grid f (A * 1048576) C / l ≡ 0
    none_fine = div-eq_of_lt (under_one (grid f (A * 1048576) C) (A * 1048576) C l C+ z.deep small (over_by f (A * 1048576) C C+ 1099511627776 z.wide))

    halves : (a c : ℕ) → 2 * (a * 1048576) ≤ c → 2 * a ≤ c
    halves a c k = omega arith

    none_cell : grid f A C / l ≡ 0
    none_cell = div-eq_of_lt (under_one (grid f A C) A C l C+ z.deep (halves A C small) (over_by f A C C+ 1099511627776 z.wide))

  same_cell : grid f (A * 1048576) C / l / 1048576 ≡ grid f A C / l
  same_cell = elim (le_or (prec f) (size (A * l / C))) [
    | inl h ↦ ap (λ (x : ℕ). x / l / 1048576) (grid_scale f A C 20 C+ h) ∙ cut_back (grid f A C) l L
    | inr h ↦ let u = none_fine h in let v = none_cell h in omega arith
  ]

  pub index_of_fine : (n : ℕ) → fine_cell n (fine_at f d p q) ≡ clamped_floor (div f (round f false p q) s) n
  index_of_fine n =
      ap (λ (x : ℕ). min (x / 1048576) (n - 1)) (fine_is f d z p q Q fine bound ∙ ap (λ (x : ℕ). x / l) unit_grid)
      ∙ ap (λ (x : ℕ). min x (n - 1)) same_cell
      ∙ sym (ap (λ (x : Float). clamped_floor x n) by_cell ∙ clamped_is (round f false A C) (grid f A C) l n L cell_value)
