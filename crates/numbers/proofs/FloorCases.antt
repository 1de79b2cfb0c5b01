-- The cases of `floor` and `clamped_floor`. Assumes nothing.
use Rattle.std.proofs.Common.{◌≡◌, ℕ, ◌+◌, ◌-◌, ◌*◌, ◌/◌, ◌^◌, ◌<◌, ◌≤◌, min, Bool, true, false, cond, T, ltb, ℤ, pos, sym, refl, ap, ◌∙◌, subst, true≢false, lt_of_lt_of_le, mul-le-mul_right, zero-lt-suc, div-lt_iff_lt-mul, le-div_iff_mul-le, mul-one, not-le_of_lt, div-mul-le_self, div-one, arith, nltb→le}
use native.Mathlib.Nat.{div-eq_of_lt}
use lib.Ieee.{Float, nan, inf, fin, binary64, up, down, round, neg, lt, sub, mul, of_int}
use lib.Ieee.Exact.{HasValue}
use lib.Ieee.Fits.{down_pos}
use lib.Ieee.Positive.{num, den, positive, den_pos, own_value}
use Rattle.numbers.specs.Order.{magnitude_of}
use Rattle.numbers.specs.Floor.{floor_of, clamped_floor}
use Rattle.numbers.proofs.Values.{below_power}
use Rattle.numbers.proofs.Tests.{holds, fails, positive_under, under_whole, over_whole, not_over_whole, not_lt_says}
use Rattle.numbers.proofs.Sums.{neg_value}
use Rattle.numbers.proofs.WholeLaws.{Small, Stays, not_number, endless, whole, counted, counted_value, counted_less, counted_lower, counted_signed, whole_value, step, step_value, sign_of, cut_small, ceil_more, ceil_same}

-- ---- `floor`

pub floor_stays : {v : Float} → Stays v → v ≡ floor_of v
unfolding floor_of
floor_stays not_number = refl
floor_stays (endless s) = refl
floor_stays (whole false m e h k) = sym k ∙ ap (λ (n : ℕ). round binary64 false n 1) (sym (ap (λ (d : ℕ). m * up e / d) h ∙ div-one (m * up e)))
floor_stays (whole true m e h k) = sym k ∙ ap (λ (n : ℕ). round binary64 true n 1) (sym (ap (λ (d : ℕ). (m * up e + (d - 1)) / d) h ∙ same (m * up e)))
  where
    same : (n : ℕ) → (n + (1 - 1)) / 1 ≡ n
    same n = omega arith

-- v cut toward zero
cut_has : (t : Bool) (m : ℕ) (e : ℤ) → Small (fin false m e) → (cut : Float) → cut ≡ mul binary64 (fin (lt (fin t m e) (fin false 0 (pos 0))) 1 (pos 0)) (counted false (m * up e / down e)) → HasValue cut t (m * up e / down e) 1
cut_has t m e s cut h =
    let q = m * up e / down e in
    let l : q ≤ 2 ^ 53 = fewer q (cut_small (fin false m e) s) in
    subst (λ (x : Float). HasValue x t q 1) (sym (h ∙ counted_signed (lt (fin t m e) (fin false 0 (pos 0))) q l ∙ ap (λ (u : Bool). counted u q) (sign_of t m e s))) (counted_value t q l)
  where
    fewer : (q : ℕ) → q < 2 ^ 52 → q ≤ 2 ^ 53
    fewer q h = omega arith

-- above zero the cut is the floor, and is not above v
floor_plus : (m : ℕ) (e : ℤ) → Small (fin false m e) → (cut : Float) → HasValue cut false (m * up e / down e) 1
    → sub binary64 cut (cond (lt (fin false m e) cut) (fin false 1 (pos 0)) (fin false 0 (pos 0))) ≡ counted false (m * up e / down e)
floor_plus m e s cut h =
    go (lt (fin false m e) cut) (λ (t : T (lt (fin false m e) cut)). not-le_of_lt (under_whole (fin false m e) cut (m * up e / down e) s.above_zero h t) (div-mul-le_self (m * up e) (down e)))
  where
    go : (b : Bool) → (T b → ⊥) → sub binary64 cut (cond b (fin false 1 (pos 0)) (fin false 0 (pos 0))) ≡ counted false (m * up e / down e)
    go true n = absurd (n tt)
    go false n = counted_less (m * up e / down e) 0 cut (fin false 0 (pos 0)) (least (m * up e / down e)) h (refl, refl) ∙ ap (λ (n : ℕ). counted false n) (same (m * up e / down e))
      where
        least : (n : ℕ) → 0 ≤ n
        least n = omega arith

        same : (n : ℕ) → n - 0 ≡ n
        same n = omega arith

-- below zero the cut is the floor where it is v, and one above it otherwise
opposite : (m : ℕ) (e : ℤ) (x : Float) (q : ℕ) → HasValue x true q 1 → lt (fin true m e) x ≡ lt (neg x) (fin false m e)
unfolding lt neg
opposite m e nan q h = absurd h
opposite m e (inf t) q h = absurd h
opposite m e (fin false n g) q h = absurd (true≢false (sym h.0))
opposite m e (fin true n g) q h = refl

floor_minus : (m : ℕ) (e : ℤ) → Small (fin false m e) → (cut : Float) → HasValue cut true (m * up e / down e) 1
    → sub binary64 cut (cond (lt (fin true m e) cut) (fin false 1 (pos 0)) (fin false 0 (pos 0))) ≡ counted true ((m * up e + (down e - 1)) / down e)
floor_minus m e s cut h =
    let v = fin false m e in
    let q = m * up e / down e in
    let k = neg_value cut true q 1 h in
    counted_lower q (step (lt (fin true m e) cut)) cut _ h (step_value (lt (fin true m e) cut))
    ∙ ap (λ (n : ℕ). counted true n)
    (go (lt (fin true m e) cut)
    (λ (t : lt (fin true m e) cut ≡ true). over_whole v (neg cut) q s.above_zero k (holds _ (sym (opposite m e cut q h) ∙ t)))
    (λ (t : lt (fin true m e) cut ≡ false). not_over_whole v (neg cut) q s.above_zero k (fails _ (sym (opposite m e cut q h) ∙ t))))
  where
    go : (b : Bool) → (b ≡ true → m * up e / down e * down e < m * up e) → (b ≡ false → m * up e ≤ m * up e / down e * down e) → m * up e / down e + step b ≡ (m * up e + (down e - 1)) / down e
    go true y n = sym (ceil_more (m * up e) (down e) (down_pos e) (y refl))
    go false y n = add_zero (m * up e / down e) ∙ sym (ceil_same (m * up e) (down e) (down_pos e) (n refl))
      where
        add_zero : (n : ℕ) → n + 0 ≡ n
        add_zero n = omega arith

pub floor_of_lem : (v cut : Float) → Small (magnitude_of v) → cut ≡ mul binary64 (fin (lt v (fin false 0 (pos 0))) 1 (pos 0)) (counted false (num (magnitude_of v) / den (magnitude_of v)))
    → sub binary64 cut (cond (lt v cut) (fin false 1 (pos 0)) (fin false 0 (pos 0))) ≡ floor_of v
unfolding magnitude_of floor_of
floor_of_lem nan cut s h = absurd s.above_zero
floor_of_lem (inf t) cut s h = absurd s.above_zero
floor_of_lem (fin false m e) cut s h = floor_plus m e s cut (cut_has false m e s cut h)
floor_of_lem (fin true m e) cut s h = floor_minus m e s cut (cut_has true m e s cut h)

-- ---- `clamped_floor`

pub clamped_none : (v : Float) → 0 ≡ clamped_floor v 0
unfolding clamped_floor
clamped_none nan = refl
clamped_none (inf true) = refl
clamped_none (inf false) = refl
clamped_none (fin true m e) = refl
clamped_none (fin false m e) = none (m * up e / down e)
  where
    none : (x : ℕ) → 0 ≡ min x (0 - 1)
    none x = omega arith

pub clamped_low : (v : Float) (count : ℕ) → lt (fin false 0 (pos 0)) v ≡ false → 0 ≡ clamped_floor v count
unfolding clamped_floor lt
clamped_low nan count p = refl
clamped_low (inf true) count p = refl
clamped_low (inf false) count p = absurd (true≢false p)
clamped_low (fin true m e) count p = refl
clamped_low (fin false m e) count p = none (m * up e) (down e) count (down_pos e) (nltb→le (0 * down e) (m * up e * 1) (fails (ltb (0 * down e) (m * up e * 1)) p))
  where
    none : (x d c : ℕ) → 0 < d → x * 1 ≤ 0 * d → 0 ≡ min (x / d) (c - 1)
    none x d c D h = let z : x ≡ 0 = omega arith in let q : x / d ≡ 0 = ap (λ (y : ℕ). y / d) z ∙ div-eq_of_lt D in omega arith

pub clamped_high : (v w : Float) (count : ℕ) → lt (fin false 0 (pos 0)) v ≡ true → HasValue w false (count - 1) 1 → lt v w ≡ false → count - 1 ≡ clamped_floor v count
unfolding clamped_floor lt
clamped_high nan w count p h l = absurd (true≢false (sym p))
clamped_high (inf true) w count p h l = absurd (true≢false (sym p))
clamped_high (inf false) w count p h l = refl
clamped_high (fin true m e) w count p h l = absurd (true≢false (sym p))
clamped_high (fin false m e) w count p h l = capped (m * up e / down e) (count - 1) ((le-div_iff_mul-le (down_pos e)).1 (subst (λ (x : ℕ). (count - 1) * down e ≤ x) (mul-one (m * up e)) (not_lt_says (fin false m e) w (m * up e) (down e) (count - 1) 1 (down_pos e) (zero-lt-suc 0) (refl, refl) h (fails _ l))))
  where
    capped : (x n : ℕ) → n ≤ x → n ≡ min x n
    capped x n h = omega arith

pub clamped_within : (v : Float) (count : ℕ) → T (positive v) → num v / den v < count → num v / den v ≡ clamped_floor v count
unfolding clamped_floor
clamped_within nan count p l = absurd p
clamped_within (inf s) count p l = absurd p
clamped_within (fin true m e) count p l = absurd p
clamped_within (fin false m e) count p l = least (m * up e / down e) count l
  where
    least : (x c : ℕ) → x < c → x ≡ min x (c - 1)
    least x c h = omega arith

-- v is above zero and below count - 1, as the tests of the code say it
pub record Within (v : Float) (count : ℕ) : Type 0 where
  pub above_zero : T (positive v)
  pub before_last : num v / den v < count - 1
  pub small : T (lt v (fin false 1 (pos 52)))

pub within : (v : Float) (count : ℕ) → count < 2 ^ 32 → lt (fin false 0 (pos 0)) v ≡ true → lt v (of_int binary64 (pos (count - 1))) ≡ true → Within v count
within v count C p l =
    let w = of_int binary64 (pos (count - 1)) in
    let q = positive_under v w (holds _ p) (holds _ l) in
    let h : num v < (count - 1) * den v = under_whole v w (count - 1) q (whole_value (count - 1) (few count C)) (holds _ l) in
    record {
      above_zero = q;
      before_last = (div-lt_iff_lt-mul (den_pos v)).1 h;
      small = below_power 52 v (num v) (den v) (den_pos v) (lt_of_lt_of_le h (mul-le-mul_right (den v) (fewer count C))) (own_value v q);
    }
  where
    few : (c : ℕ) → c < 2 ^ 32 → c - 1 ≤ 2 ^ 53
    few c h = omega arith

    fewer : (c : ℕ) → c < 2 ^ 32 → c - 1 ≤ 2 ^ 52
    fewer c h = omega arith
