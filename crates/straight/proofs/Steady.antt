-- What is far smaller than a value of the format does not change it in a sum: in units of the format's smallest value, a number that is within t of a
-- value Z rounds to Z, where t is small against both. Assumes nothing.
use mathlib.Core.Path.{◌≡◌, sym, ap, ◌∙◌, subst}
use mathlib.Core.Logic.{◌⊎◌, inl, inr}
use Prim.Native.Nat.{ℕ, suc, ◌+◌, ◌-◌, ◌*◌, ◌^◌, ◌≤◌, ◌<◌}
use native.Mathlib.Nat.{le_trans, le_of_eq, lt_of_lt_of_le, lt_of_not-le, not-le_of_lt, suc-mul, mul_assoc, mul-pos, mul-le-mul_right, mul-le-mul_left, le_of_mul-le-mul_right, lt_of_mul-lt-mul_right, mul-div_cancel}
use native.Mathlib.Omega.{arith}
use mathlib.Core.Bool.{Bool, true, false}
use lib.Pow.{pow-add, pow_pos, pow_mono}
use lib.Ieee.{Format, prec, low, size, round, neg}
use lib.Ieee.Digits.{size-lt, size_reaches, back}
use lib.Ieee.Exact.{HasValue}
use lib.Ieee.Fits.{round-fits, two}
use lib.Ieee.Order.{drop, kept}
use lib.Ieee.Scale.{grid, overflow, round_val}
use Rattle.numbers.proofs.Values.{value_unique, neg_round}
use Rattle.slices.proofs.Laws.{le_or}
use Rattle.numbers.proofs.Rounding.{closest_over, closest_under}

-- ---- over plain numbers: h is half of the significands, w the last kept place, c how many of it, and Z = q * x

-- Z is a number of w
on_place : (h w c A Z t r : ℕ) → Z ≡ r * w → A ≤ Z + t → Z ≤ A + t → 4 * t < w → 2 * (c * w) ≤ 2 * A + w → 2 * A ≤ 2 * (c * w) + w → c ≡ r
on_place h w c A Z t r e a b s u v =
    between (lt_of_mul-lt-mul_right w (suc_under (suc-mul r w))) (lt_of_mul-lt-mul_right w (suc_over (suc-mul c w)))
  where
    suc_under : suc r * w ≡ r * w + w → c * w < suc r * w
    suc_under k = omega arith

    suc_over : suc c * w ≡ c * w + w → r * w < suc c * w
    suc_over k = omega arith

    between : c < suc r → r < suc c → c ≡ r
    between p q = omega arith

-- and it is one: else it has a finer last place x, and lies below what A is at least
no_finer : (h w A Z t q x : ℕ) → Z ≡ q * x → q < 2 * h → 2 * x ≤ w → 0 < x → 0 < h → h * w ≤ A → A ≤ Z + t → 8 * (h * t) ≤ A → ⊥
no_finer h w A Z t q x e l p X H a b m =
    let i : suc q * x ≤ 2 * h * x = mul-le-mul_right x l in
    let j : h * (2 * x) ≤ h * w = mul-le-mul_left h p in
    let k : suc q * x ≡ q * x + x = suc-mul q x in
    let n : x ≤ t = omega arith in
    let o : h * x ≤ h * t = mul-le-mul_left h n in
    let r : 1 * t ≤ h * t = mul-le-mul_right t H in
    omega arith

-- ---- rounded to Z

module _ (f : Format) (A Z t q j : ℕ) (is : Z ≡ q * 2 ^ j) (few : q < 2 ^ prec f) (over : A ≤ Z + t) (under : Z ≤ A + t)
    (large : 8 * (2 ^ (prec f - 1) * t) ≤ A) (normal : 2 ^ prec f ≤ A) where
  h : ℕ
  h = 2 ^ (prec f - 1)

  k : ℕ
  k = drop (prec f) (A * 2 ^ low f) (2 ^ low f)

  w : ℕ
  w = 2 ^ k

  c : ℕ
  c = kept (prec f) (A * 2 ^ low f) (2 ^ low f)

  double : 2 ^ prec f ≡ 2 * h
  unfolding h
  double = ap (λ (z : ℕ). 2 ^ z) (one_less (prec f) (two f)) ∙ pow-add 2 1 (prec f - 1)
    where
      one_less : (p : ℕ) → 2 ≤ p → p ≡ 1 + (p - 1)
      one_less p l = omega arith

  drops : k ≡ size A - prec f
  unfolding k
  drops = ap (λ (z : ℕ). size z - prec f) (mul-div_cancel A (pow_pos (low f)))

  digits : prec f < size A
  digits = lt_of_not-le (λ (g : size A ≤ prec f). not-le_of_lt (lt_of_lt_of_le (size-lt A) (pow_mono g)) normal)

  at_least : h * w ≤ A
  unfolding h w
  at_least = le_trans (le_of_eq (sym (pow-add 2 (prec f - 1) k))) (size_reaches A (prec f - 1 + k) (reach (prec f) (size A) k (two f) digits drops))
    where
      reach : (p s k : ℕ) → 2 ≤ p → p < s → k ≡ s - p → p - 1 + k < s
      reach p s k a b e = omega arith

  at_most : A < 2 * (h * w)
  unfolding h w
  at_most =
      lt_of_lt_of_le (size-lt A)
      (le_of_eq
      (ap (λ (z : ℕ). 2 ^ z) (all (prec f) (size A) k digits drops)
      ∙ pow-add 2 (prec f) k
      ∙ ap (λ (z : ℕ). z * 2 ^ k) double
      ∙ mul_assoc 2 (2 ^ (prec f - 1)) (2 ^ k)))
    where
      all : (p s k : ℕ) → p < s → k ≡ s - p → s ≡ p + k
      all p s k b e = omega arith

  small : 4 * t < w
  unfolding h
  small = lt_of_mul-lt-mul_right (2 * h) (regroup h t w A large at_most)
    where
      regroup : (h t w A : ℕ) → 8 * (h * t) ≤ A → A < 2 * (h * w) → 4 * t * (2 * h) < w * (2 * h)
      regroup h t w A l m = omega arith

  closest_most : 2 * (c * w) ≤ 2 * A + w
  unfolding c w
  closest_most =
      le_of_mul-le-mul_right
      (regroup (kept (prec f) (A * 2 ^ low f) (2 ^ low f)) (2 ^ k) A (2 ^ low f)
      (unfold k in closest_over (A * 2 ^ low f) (2 ^ low f * 2 ^ k) (mul-pos (pow_pos (low f)) (pow_pos k)))) (pow_pos (low f))
    where
      regroup : (c w A U : ℕ) → 2 * (c * (U * w)) ≤ 2 * (A * U) + U * w → 2 * (c * w) * U ≤ (2 * A + w) * U
      regroup c w A U h = omega arith

  closest_least : 2 * A ≤ 2 * (c * w) + w
  unfolding c w
  closest_least =
      le_of_mul-le-mul_right
      (regroup (kept (prec f) (A * 2 ^ low f) (2 ^ low f)) (2 ^ k) A (2 ^ low f)
      (unfold k in closest_under (A * 2 ^ low f) (2 ^ low f * 2 ^ k) (mul-pos (pow_pos (low f)) (pow_pos k)))) (pow_pos (low f))
    where
      regroup : (c w A U : ℕ) → 2 * (A * U) ≤ 2 * (c * (U * w)) + U * w → 2 * A * U ≤ (2 * (c * w) + w) * U
      regroup c w A U h = omega arith

  steady : grid f A (2 ^ low f) ≡ Z
  unfolding c w k h
  steady = go (le_or k j)
    where
      next : j < k → 1 + j ≤ k
      next l = omega arith

      go : (k ≤ j) ⊎ (j < k) → grid f A (2 ^ low f) ≡ Z
      go (inl l) =
          let r = q * 2 ^ (j - k) in
          let z : Z ≡ r * w =
          is ∙ ap (λ (x : ℕ). q * x) (ap (λ (x : ℕ). 2 ^ x) (sym (back j k l)) ∙ pow-add 2 (j - k) k) ∙ sym (mul_assoc q (2 ^ (j - k)) (2 ^ k)) in
          let m : c ≡ r = on_place h w c A Z t r z over under small closest_most closest_least in
          ap (λ (x : ℕ). x * w) m ∙ sym z
      go (inr l) =
          absurd
          (no_finer h w A Z t q (2 ^ j) is (lt_of_lt_of_le few (le_of_eq double)) (le_trans (le_of_eq (sym (pow-add 2 1 j))) (pow_mono (next l))) (pow_pos j)
          (pow_pos (prec f - 1)) at_least over large)

-- ---- so two numbers within t of Z round alike

module _ (f : Format) (A B Z t q j : ℕ) (is : Z ≡ q * 2 ^ j) (few : q < 2 ^ prec f) (room : Z < overflow f)
    (large : 8 * (2 ^ (prec f - 1) * t) + t ≤ Z) (normal : 2 ^ prec f + t ≤ Z) where
  value : (C : ℕ) → C ≤ Z + t → Z ≤ C + t → HasValue (round f false C (2 ^ low f)) false Z (2 ^ low f)
  value C over under =
      let e = steady f C Z t q j is few over under (apart (8 * (2 ^ (prec f - 1) * t)) t Z C large under) (apart (2 ^ prec f) t Z C normal under) in
      subst (λ (x : ℕ). HasValue (round f false C (2 ^ low f)) false x (2 ^ low f)) e
      (round_val f C (2 ^ low f) (subst (λ (x : ℕ). x < overflow f) (sym e) room))
    where
      apart : (l t Z C : ℕ) → l + t ≤ Z → Z ≤ C + t → l ≤ C
      apart l t Z C a b = omega arith

  alike_plain : A ≤ Z + t → Z ≤ A + t → B ≤ Z + t → Z ≤ B + t → round f false A (2 ^ low f) ≡ round f false B (2 ^ low f)
  alike_plain a a' b b' =
      value_unique f (round f false A (2 ^ low f)) (round f false B (2 ^ low f)) false Z (2 ^ low f) (pow_pos (low f)) (round-fits f false A (2 ^ low f))
      (round-fits f false B (2 ^ low f))
      (value A a a') (value B b b')

  pub alike : (s : Bool) → A ≤ Z + t → Z ≤ A + t → B ≤ Z + t → Z ≤ B + t → round f s A (2 ^ low f) ≡ round f s B (2 ^ low f)
  alike false a a' b b' = alike_plain a a' b b'
  alike true a a' b b' = sym (neg_round f false A (2 ^ low f)) ∙ ap neg (alike_plain a a' b b') ∙ neg_round f false B (2 ^ low f)
