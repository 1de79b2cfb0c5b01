-- The cases of `round_half_away`. Assumes nothing.
use Rattle.std.proofs.Common.{◌≡◌, ℕ, ◌+◌, ◌-◌, ◌*◌, ◌/◌, ◌^◌, ◌<◌, ◌≤◌, Bool, true, false, cond, T, pos, negsuc, sym, refl, ap, ◌∙◌, subst, zero-le, lt_of_lt_of_le, le_of_lt, zero-lt-suc, mul_assoc, div-lt_iff_lt-mul, add-mul, mul-lt-mul_of_pos_right, mul-pos, mul_right_comm, div-mul-le_self, mul_left_comm, arith, lit≤, pow_pos}
use native.Mathlib.Nat.{div-eq_of_lt-le, lt-div-mul-add}
use lib.Ieee.{Float, nan, inf, fin, binary64, up, down, round, lt, add, sub, mul}
use lib.Ieee.Exact.{HasValue, round_exact}
use lib.Ieee.Fits.{down_pos}
use lib.Ieee.Positive.{num, den, positive, den_pos, own_value}
use Rattle.numbers.specs.Order.{magnitude_of}
use Rattle.numbers.specs.Away.{round_away}
use Rattle.numbers.proofs.Tests.{holds, fails, lt_says, not_lt_says}
use Rattle.numbers.proofs.Sums.{sum_at_lem}
use Rattle.numbers.proofs.WholeLaws.{Small, Stays, not_number, endless, whole, counted, counted_value, counted_sum, counted_less, counted_signed, sign_of, cut_small}

pub away_stays : {v : Float} → Stays v → v ≡ round_away v
unfolding round_away
away_stays not_number = refl
away_stays (endless s) = refl
away_stays (whole s m e h k) = sym k ∙ ap (λ (n : ℕ). round binary64 s n 1) (sym (ap (λ (d : ℕ). (2 * (m * up e) + d) / (2 * d)) h ∙ same (m * up e)))
  where
    same : (n : ℕ) → (2 * n + 1) / (2 * 1) ≡ n
    same n = omega arith

-- the sign goes through
pub away_of : (v x : Float) → Small (magnitude_of v) → x ≡ round_away (magnitude_of v) → mul binary64 (fin (lt v (fin false 0 (pos 0))) 1 (pos 0)) x ≡ round_away v
unfolding magnitude_of round_away
away_of nan x s h = absurd s.above_zero
away_of (inf t) x s h = absurd s.above_zero
away_of (fin t m e) x s h =
    let n = (2 * (m * up e) + down e) / (2 * down e) in
    ap (λ (y : Float). mul binary64 (fin (lt (fin t m e) (fin false 0 (pos 0))) 1 (pos 0)) y) h
    ∙ counted_signed (lt (fin t m e) (fin false 0 (pos 0))) n (div_small (m * up e) (down e) (down_pos e) s.below)
    ∙ ap (λ (u : Bool). counted u n) (sign_of t m e s)
  where
    less : (a d : ℕ) → a < 4503599627370496 * d → 2 * a + d < 9007199254740992 * (2 * d)
    less a d h = omega arith

    div_small : (a d : ℕ) → 0 < d → a < 2 ^ 52 * d → (2 * a + d) / (2 * d) ≤ 2 ^ 53
    div_small a d D h = le_of_lt ((div-lt_iff_lt-mul (mul-pos (zero-lt-suc 1) D)).1 (less a d h))

-- ---- above zero: from the whole part q of a / d, up where a / d is not below q + 1 / 2

away_up : (a d : ℕ) → 0 < d → (a / d * 2 + 1) * d ≤ a * 2 → (2 * a + d) / (2 * d) ≡ a / d + 1
away_up a d D h =
    let q = a / d in
    div-eq_of_lt-le (2 * d)
    (low q d a (add-mul q 1 (2 * d)) (mul_left_comm q 2 d) (add-mul (q * 2) 1 d) (mul_right_comm q 2 d) h)
    (high q d a D (add-mul (q + 1) 1 (2 * d)) (add-mul q 1 (2 * d)) (mul_left_comm q 2 d) (lt-div-mul-add D))
  where
    low : (q d a : ℕ) → (q + 1) * (2 * d) ≡ q * (2 * d) + 1 * (2 * d) → q * (2 * d) ≡ 2 * (q * d) → (q * 2 + 1) * d ≡ q * 2 * d + 1 * d → q * 2 * d ≡ q * d * 2 → (q * 2 + 1) * d ≤ a * 2
        → (q + 1) * (2 * d) ≤ 2 * a + d
    low q d a e f g i h = omega arith

    high : (q d a : ℕ) → 0 < d → (q + 1 + 1) * (2 * d) ≡ (q + 1) * (2 * d) + 1 * (2 * d) → (q + 1) * (2 * d) ≡ q * (2 * d) + 1 * (2 * d) → q * (2 * d) ≡ 2 * (q * d) → a < q * d + d
        → 2 * a + d < (q + 1 + 1) * (2 * d)
    high q d a D e f g h = omega arith

away_down : (a d : ℕ) → 0 < d → a * 2 < (a / d * 2 + 1) * d → (2 * a + d) / (2 * d) ≡ a / d
away_down a d D h =
    let q = a / d in
    div-eq_of_lt-le (2 * d)
    (low q d a (mul_left_comm q 2 d) (div-mul-le_self a d))
    (high q d a D (add-mul q 1 (2 * d)) (mul_left_comm q 2 d) (add-mul (q * 2) 1 d) (mul_right_comm q 2 d) h)
  where
    low : (q d a : ℕ) → q * (2 * d) ≡ 2 * (q * d) → q * d ≤ a → q * (2 * d) ≤ 2 * a + d
    low q d a e h = omega arith

    high : (q d a : ℕ) → 0 < d → (q + 1) * (2 * d) ≡ q * (2 * d) + 1 * (2 * d) → q * (2 * d) ≡ 2 * (q * d) → (q * 2 + 1) * d ≡ q * 2 * d + 1 * d → q * 2 * d ≡ q * d * 2 → a * 2 < (q * 2 + 1) * d
        → 2 * a + d < (q + 1) * (2 * d)
    high q d a D e f g i h = omega arith

-- the point halfway is a value of the format
half_value : (q : ℕ) → q < 2 ^ 52 → HasValue (round binary64 false (q * 2 + 1) 2) false (q * 2 + 1) 2
half_value q h =
    round_exact binary64 false (q * 2 + 1) 2 (q * 2 + 1) 1073 (zero-lt-suc 1) (odd q h)
    (lt_of_lt_of_le (mul-lt-mul_of_pos_right (odd q h) (pow_pos 1073)) (lit≤ tt))
    (sym (mul_assoc (q * 2 + 1) (2 ^ 1073) 2))
  where
    odd : (q : ℕ) → q < 2 ^ 52 → q * 2 + 1 < 2 ^ 53
    odd q h = omega arith

away_is : (v : Float) → T (positive v) → round_away v ≡ counted false ((2 * num v + den v) / (2 * den v))
unfolding round_away
away_is nan p = absurd p
away_is (inf s) p = absurd p
away_is (fin true m e) p = absurd p
away_is (fin false m e) p = refl

-- what the code computes, from the whole part
pub away_positive : (v part : Float) → Small v → part ≡ counted false (num v / den v)
    → sub binary64 (add binary64 part (fin false 1 (pos 0))) (cond (lt v (add binary64 part (fin false 1 (negsuc 0)))) (fin false 1 (pos 0)) (fin false 0 (pos 0))) ≡ round_away v
away_positive v part s h =
    let q = num v / den v in
    let small : q < 2 ^ 52 = cut_small v s in
    let has : HasValue part false q 1 = subst (λ (x : Float). HasValue x false q 1) (sym h) (counted_value false q (omega arith)) in
    let half = add binary64 part (fin false 1 (negsuc 0)) in
    let halfway : HasValue half false (q * 2 + 1) 2 =
    subst (λ (x : Float). HasValue x false (q * 2 + 1) 2) (sym (sum_at_lem binary64 false part (fin false 1 (negsuc 0)) q 1 1 2 (zero-lt-suc 0) (zero-lt-suc 1) has (refl, refl))) (half_value q small) in
    let next : HasValue (add binary64 part (fin false 1 (pos 0))) false (q + 1) 1 =
    subst (λ (x : Float). HasValue x false (q + 1) 1) (sym (counted_sum q 1 part (fin false 1 (pos 0)) has (refl, refl))) (counted_value false (q + 1) (omega arith)) in
    go q (lt v half) next
    (λ (t : lt v half ≡ true). away_down (num v) (den v) (den_pos v) (lt_says v half (num v) (den v) (q * 2 + 1) 2 (den_pos v) (zero-lt-suc 1) (own_value v s.above_zero) halfway (holds _ t)))
    (λ (t : lt v half ≡ false). away_up (num v) (den v) (den_pos v) (not_lt_says v half (num v) (den v) (q * 2 + 1) 2 (den_pos v) (zero-lt-suc 1) (own_value v s.above_zero) halfway (fails _ t)))
    ∙ sym (away_is v s.above_zero)
  where
    back : (q : ℕ) → q + 1 - 1 ≡ q
    back q = omega arith

    same : (q : ℕ) → q + 1 - 0 ≡ q + 1
    same q = omega arith

    some : (q : ℕ) → 1 ≤ q + 1
    some q = omega arith

    go : (q : ℕ) (b : Bool) → HasValue (add binary64 part (fin false 1 (pos 0))) false (q + 1) 1
        → (b ≡ true → (2 * num v + den v) / (2 * den v) ≡ q) → (b ≡ false → (2 * num v + den v) / (2 * den v) ≡ q + 1)
        → sub binary64 (add binary64 part (fin false 1 (pos 0))) (cond b (fin false 1 (pos 0)) (fin false 0 (pos 0))) ≡ counted false ((2 * num v + den v) / (2 * den v))
    go q true next y n = counted_less (q + 1) 1 _ (fin false 1 (pos 0)) (some q) next (refl, refl) ∙ ap (λ (i : ℕ). counted false i) (back q ∙ sym (y refl))
    go q false next y n = counted_less (q + 1) 0 _ (fin false 0 (pos 0)) zero-le next (refl, refl) ∙ ap (λ (i : ℕ). counted false i) (same q ∙ sym (n refl))
