-- Whole numbers as floats: sums and tests that are exact, the whole part of a value below 2 ^ 52, and the values that are whole already. Assumes nothing.
use Rattle.std.proofs.Common.{◌≡◌, ℕ, zero, suc, ◌+◌, ◌-◌, ◌*◌, ◌/◌, ◌^◌, ◌<◌, ◌≤◌, Bool, true, false, cond, T, eqb, ltb, ℤ, pos, negsuc, sym, refl, ap, ◌∙◌, subst, true≢false, le_trans, le_of_eq, mul-le-mul_right, zero-lt-suc, div-lt_iff_lt-mul, add-mul, mul-le-mul_left, mul-pos, lt_of_not-le, mul-one, div-mul-le_self, arith, le→leb, eqb→eq, ltb→lt, lt→ltb, nltb→le, T_not, pow_mono}
use native.Mathlib.Nat.{div-eq_of_lt-le, lt-div-mul-add}
use native.Mathlib.Decide.{dec_le}
use lib.Ieee.{Float, nan, inf, fin, binary64, up, down, round, lt, add, sub, mul, fits, of_int, in_float, in_unsigned, to_unsigned}
use lib.Ieee.Back.{round_whole, unsigned_back}
use lib.Ieee.Exact.{HasValue}
use lib.Ieee.Fits.{down_pos, up_pos}
use lib.Ieee.Positive.{num, den, positive, den_pos}
use Rattle.numbers.specs.Order.{magnitude_of}
use Rattle.numbers.proofs.Values.{round_back, fits_says}
use Rattle.numbers.proofs.Tests.{fails, positive_under, under_whole}
use Rattle.numbers.proofs.Sums.{sum_at_lem, difference_at, lower_at, unit_at}

-- ---- a whole number as a float

-- n with the sign s: exact up to 2 ^ 53
abbrev pub counted : Bool → ℕ → Float
counted s n = round binary64 s n 1

pub counted_value : (s : Bool) (n : ℕ) → n ≤ 2 ^ 53 → HasValue (counted s n) s n 1
counted_value s n h = round_whole binary64 s n h

-- as the cast of an integer writes it
pub cast_is : (n : ℕ) → of_int binary64 (pos n) ≡ counted false n
unfolding of_int
cast_is n = refl

pub cast_asks : (n : ℕ) → n ≤ 2 ^ 53 → T (in_float binary64 (pos n))
unfolding in_float
cast_asks n h = le→leb n (2 ^ 53) h

pub whole_value : (n : ℕ) → n ≤ 2 ^ 53 → HasValue (of_int binary64 (pos n)) false n 1
unfolding of_int
whole_value n h = round_whole binary64 false n h

-- and taken back
pub cast_back : (w n : ℕ) (r : Float) → r ≡ counted false n → n ≤ 2 ^ 53 → n < 2 ^ w → T (in_unsigned binary64 w r) × (to_unsigned w r ≡ n)
cast_back w n r e h l = subst (λ (x : Float). T (in_unsigned binary64 w x) × (to_unsigned w x ≡ n)) (sym (e ∙ sym (cast_is n))) (unsigned_back binary64 w n (cast_asks n h) l)

-- 1 or 0 by a test
abbrev pub step : Bool → ℕ
step true = 1
step false = 0

pub step_value : (b : Bool) → HasValue (cond b (fin false 1 (pos 0)) (fin false 0 (pos 0))) false (step b) 1
step_value true = (refl, refl)
step_value false = (refl, refl)

plain : (n k : ℕ) → n * 1 + k * 1 ≡ n + k
plain n k = omega arith

plainly : (n k : ℕ) → n * 1 - k * 1 ≡ n - k
plainly n k = omega arith

pub counted_sum : (n k : ℕ) (x y : Float) → HasValue x false n 1 → HasValue y false k 1 → add binary64 x y ≡ counted false (n + k)
counted_sum n k x y h l = sum_at_lem binary64 false x y n 1 k 1 (zero-lt-suc 0) (zero-lt-suc 0) h l ∙ ap (λ (z : ℕ). round binary64 false z 1) (plain n k)

pub counted_less : (n k : ℕ) (x y : Float) → k ≤ n → HasValue x false n 1 → HasValue y false k 1 → sub binary64 x y ≡ counted false (n - k)
counted_less n k x y g h l = difference_at binary64 x y n 1 k 1 (zero-lt-suc 0) (zero-lt-suc 0) h l (rw (mul-one, mul-one) g) ∙ ap (λ (z : ℕ). round binary64 false z 1) (plainly n k)

pub counted_lower : (n k : ℕ) (x y : Float) → HasValue x true n 1 → HasValue y false k 1 → sub binary64 x y ≡ counted true (n + k)
counted_lower n k x y h l = lower_at binary64 x y n 1 k 1 (zero-lt-suc 0) (zero-lt-suc 0) h l ∙ ap (λ (z : ℕ). round binary64 true z 1) (plain n k)

pub counted_signed : (s : Bool) (n : ℕ) → n ≤ 2 ^ 53 → mul binary64 (fin s 1 (pos 0)) (counted false n) ≡ counted s n
counted_signed s n h = unit_at binary64 s (counted false n) n 1 (zero-lt-suc 0) (counted_value false n h)

-- ---- the first whole number that is not below a / d

pub ceil_more : (a d : ℕ) → 0 < d → a / d * d < a → (a + (d - 1)) / d ≡ a / d + 1
ceil_more a d D h = div-eq_of_lt-le d (low (a / d) d a D (add-mul (a / d) 1 d) h) (high (a / d) d a D (add-mul (a / d + 1) 1 d) (add-mul (a / d) 1 d) (lt-div-mul-add D))
  where
    low : (q d a : ℕ) → 0 < d → (q + 1) * d ≡ q * d + 1 * d → q * d < a → (q + 1) * d ≤ a + (d - 1)
    low q d a D e h = omega arith

    high : (q d a : ℕ) → 0 < d → (q + 1 + 1) * d ≡ (q + 1) * d + 1 * d → (q + 1) * d ≡ q * d + 1 * d → a < q * d + d → a + (d - 1) < (q + 1 + 1) * d
    high q d a D e f h = omega arith

pub ceil_same : (a d : ℕ) → 0 < d → a ≤ a / d * d → (a + (d - 1)) / d ≡ a / d
ceil_same a d D h = div-eq_of_lt-le d (le_trans (div-mul-le_self a d) (more a d)) (high (a / d) d a D (add-mul (a / d) 1 d) h)
  where
    more : (a d : ℕ) → a ≤ a + (d - 1)
    more a d = omega arith

    high : (q d a : ℕ) → 0 < d → (q + 1) * d ≡ q * d + 1 * d → a ≤ q * d → a + (d - 1) < (q + 1) * d
    high q d a D e h = omega arith

pub ceil_small : (a d : ℕ) → 0 < d → a < 2 ^ 52 * d → (a + (d - 1)) / d ≤ 2 ^ 52
ceil_small a d D h = below ((a + (d - 1)) / d) ((div-lt_iff_lt-mul D).1 (less a d D h))
  where
    less : (a d : ℕ) → 0 < d → a < 4503599627370496 * d → a + (d - 1) < 4503599627370497 * d
    less a d D h = omega arith

    below : (x : ℕ) → x < 4503599627370497 → x ≤ 4503599627370496
    below x h = omega arith

-- ---- a value below 2 ^ 52

-- v is above zero and below 2 ^ 52, as the tests of the code say it
pub record Small (v : Float) : Type 0 where
  pub above_zero : T (positive v)
  pub below : num v < 2 ^ 52 * den v

pub small : (v : Float) → T (lt (fin false 0 (pos 0)) v) → T (lt v (fin false 1 (pos 52))) → Small v
small v p l = let q = positive_under v (fin false 1 (pos 52)) p l in record { above_zero = q; below = under_whole v (fin false 1 (pos 52)) (2 ^ 52) q (refl, refl) l }

-- a value that is not zero is below zero by its sign
pub sign_of : (t : Bool) (m : ℕ) (e : ℤ) → Small (fin false m e) → lt (fin t m e) (fin false 0 (pos 0)) ≡ t
unfolding lt
sign_of false m e s = never (ltb (m * up e * 1) (0 * down e)) (λ (t : T (ltb (m * up e * 1) (0 * down e))). none (m * up e) (down e) (ltb→lt (m * up e * 1) (0 * down e) t))
  where
    never : (b : Bool) → (T b → ⊥) → b ≡ false
    never true n = absurd (n tt)
    never false n = refl

    none : (x d : ℕ) → x * 1 < 0 * d → ⊥
    none x d h = omega arith
sign_of true m e s = surely (ltb 0 (m * up e * 1 + 0 * down e)) (lt→ltb 0 (m * up e * 1 + 0 * down e) (some (m * up e) (down e) (mul-pos (ltb→lt 0 m s.above_zero) (up_pos e))))
  where
    surely : (b : Bool) → T b → b ≡ true
    surely true t = refl
    surely false t = absurd t

    some : (x d : ℕ) → 0 < x → 0 < x * 1 + 0 * d
    some x d h = omega arith

pub cut_small : (v : Float) → Small v → num v / den v < 2 ^ 52
cut_small v s = (div-lt_iff_lt-mul (den_pos v)).1 s.below

-- ---- values that are whole already

-- v is its own floor, ceiling and nearest whole number: a NaN, an infinity, or a whole number
pub data Stays : Float → Type 0 where
  not_number : Stays nan
  endless : (s : Bool) → Stays (inf s)
  whole : (s : Bool) (m : ℕ) (e : ℤ) → down e ≡ 1 → round binary64 s (m * up e) 1 ≡ fin s m e → Stays (fin s m e)

stays_whole : (s : Bool) (m : ℕ) (e : ℤ) → T (fits binary64 (fin s m e)) → down e ≡ 1 → Stays (fin s m e)
stays_whole s m e t h = whole s m e h (round_back binary64 s m e (m * up e) 1 t (zero-lt-suc 0) (ap (λ (x : ℕ). m * up e * x) (sym h)))

too_large : (m k : ℕ) → m < 2 ^ 53 → 2 ^ 52 * 2 ^ suc k ≤ m * 1 → ⊥
too_large m k a b =
    let c : 2 ^ 53 ≤ 2 ^ 52 * 2 ^ suc k = le_trans (le_of_eq refl) (mul-le-mul_left (2 ^ 52) (pow_mono {i = 1} {j = suc k} (lit1 k))) in
    clash m (2 ^ 52 * 2 ^ suc k) a c b
  where
    lit1 : (k : ℕ) → 1 ≤ suc k
    lit1 k = omega arith

    clash : (m x : ℕ) → m < 9007199254740992 → 9007199254740992 ≤ x → x ≤ m * 1 → ⊥
    clash m x p q r = omega arith

-- from 2 ^ 52 on a value is whole
no_fraction : (s : Bool) (m : ℕ) (e : ℤ) → T (fits binary64 (fin s (suc m) e)) → 2 ^ 52 * down e ≤ suc m * up e → down e ≡ 1
no_fraction s m (pos k) t h = refl
no_fraction s m (negsuc k) t h = absurd (too_large (suc m) k (fits_says binary64 s m (negsuc k) t).0 h)

stays_beyond : (s : Bool) (m : ℕ) (e : ℤ) → T (fits binary64 (fin s (suc m) e)) → 2 ^ 52 * down e ≤ suc m * up e → Stays (fin s (suc m) e)
stays_beyond s m e t h = stays_whole s (suc m) e t (no_fraction s m e t h)

pub whole_beyond : (x : Float) → T (positive x) → T (fits binary64 x) → 2 ^ 52 * den x ≤ num x → den x ≡ 1
whole_beyond nan p t h = absurd p
whole_beyond (inf s) p t h = absurd p
whole_beyond (fin true m e) p t h = absurd p
whole_beyond (fin false zero e) p t h = absurd p
whole_beyond (fin false (suc m) e) p t h = no_fraction false m e t h

zero_down : (u d : ℕ) → 0 < u → 0 < d → T (eqb (u * d) 1) → d ≡ 1
zero_down u d U D t = let h : u * d ≡ 1 = eqb→eq (u * d) 1 t in let k : 1 * d ≤ u * d = mul-le-mul_right d U in omega arith

stays_zero : (s : Bool) (e : ℤ) → T (fits binary64 (fin s zero e)) → Stays (fin s zero e)
unfolding fits
stays_zero s e t = stays_whole s zero e t (zero_down (up e) (down e) (up_pos e) (down_pos e) t)

-- the tests that find such a value
pub stays_above : (v : Float) → T (fits binary64 v) → lt (fin false 0 (pos 0)) v ≡ true → lt v (fin false 1 (pos 52)) ≡ false → Stays v
unfolding lt
stays_above nan t p l = not_number
stays_above (inf s) t p l = endless s
stays_above (fin true m e) t p l = absurd (true≢false (sym p))
stays_above (fin false zero e) t p l = stays_zero false e t
stays_above (fin false (suc m) e) t p l =
    stays_beyond false m e t (subst (λ (x : ℕ). 2 ^ 52 * down e ≤ x) (mul-one (suc m * up e)) (nltb→le (suc m * up e * 1) (2 ^ 52 * down e) (fails (ltb (suc m * up e * 1) (2 ^ 52 * down e)) l)))

pub stays_small : (v : Float) → T (fits binary64 v) → lt (fin false 0 (pos 0)) (magnitude_of v) ≡ false → Stays v
unfolding lt magnitude_of
stays_small nan t p = not_number
stays_small (inf s) t p = endless s
stays_small (fin s zero e) t p = stays_zero s e t
stays_small (fin s (suc m) e) t p = absurd (T_not (ltb (0 * down e) (suc m * up e * 1)) (fails (ltb (0 * down e) (suc m * up e * 1)) p) (lt→ltb (0 * down e) (suc m * up e * 1) (above (down e) (suc m * up e) (mul-pos (zero-lt-suc m) (up_pos e)))))
  where
    above : (d x : ℕ) → 0 < x → 0 * d < x * 1
    above d x h = omega arith

pub stays_large : (v : Float) → T (fits binary64 v) → lt (magnitude_of v) (fin false 1 (pos 52)) ≡ false → Stays v
unfolding lt magnitude_of
stays_large nan t l = not_number
stays_large (inf s) t l = endless s
stays_large (fin s zero e) t l = stays_zero s e t
stays_large (fin s (suc m) e) t l =
    stays_beyond s m e t (subst (λ (x : ℕ). 2 ^ 52 * down e ≤ x) (mul-one (suc m * up e)) (nltb→le (suc m * up e * 1) (2 ^ 52 * down e) (fails (ltb (suc m * up e * 1) (2 ^ 52 * down e)) l)))

-- ---- a whole number made from a value of the format is one

-- n is at most 2 ^ 53 where the value is below 2 ^ 52, and is the value where that has no fraction
pub exact_whole : (s : Bool) (m : ℕ) (e : ℤ) (n : ℕ) → T (fits binary64 (fin s m e)) → (m * up e < 2 ^ 52 * down e → n ≤ 2 ^ 53) → (down e ≡ 1 → n ≡ m * up e) → HasValue (counted s n) s n 1
exact_whole s m e n t small same = go m t small same (dec_le (2 ^ 52 * down e) (m * up e))
  where
    go : (m : ℕ) → T (fits binary64 (fin s m e)) → (m * up e < 2 ^ 52 * down e → n ≤ 2 ^ 53) → (down e ≡ 1 → n ≡ m * up e) → Dec (2 ^ 52 * down e ≤ m * up e) → HasValue (counted s n) s n 1
    go m t small same (no h) = counted_value s n (small (lt_of_not-le h))
    go zero t small same (yes h) = absurd (none (up e) (down e) (down_pos e) h)
      where
        none : (u d : ℕ) → 0 < d → 4503599627370496 * d ≤ 0 * u → ⊥
        none u d D h = omega arith
    go (suc m) t small same (yes h) =
        let d = no_fraction s m e t h in
        let k : n ≡ suc m * up e = same d in
        subst (λ (x : ℕ). HasValue (counted s x) s x 1) (sym k)
        (subst (λ (x : Float). HasValue x s (suc m * up e) 1) (sym (round_back binary64 s (suc m) e (suc m * up e) 1 t (zero-lt-suc 0) (ap (λ (x : ℕ). suc m * up e * x) (sym d)))) (refl, ap (λ (x : ℕ). suc m * up e * x) (sym d)))
