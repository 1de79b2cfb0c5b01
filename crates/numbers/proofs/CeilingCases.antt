-- The cases of `ceiling`. Assumes nothing.
use Rattle.std.proofs.Common.{◌≡◌, ℕ, ◌+◌, ◌-◌, ◌*◌, ◌/◌, ◌^◌, ◌<◌, ◌≤◌, min, Bool, true, false, cond, T, ltb, pos, sym, refl, ap, ◌∙◌, subst, true≢false, le-div_iff_mul-le, arith, nltb→le}
use native.Mathlib.Nat.{div-eq_of_lt}
use lib.Ieee.{Float, nan, inf, fin, binary64, up, down, lt, add, to_unsigned}
use lib.Ieee.Fits.{down_pos}
use lib.Ieee.Exact.{HasValue}
use lib.Ieee.Positive.{num, den, positive, den_pos}
use Rattle.numbers.specs.Ceiling.{ceiling_of}
use Rattle.numbers.proofs.Tests.{holds, fails, over_whole, not_over_whole}
use Rattle.numbers.proofs.WholeLaws.{Small, Stays, not_number, endless, whole, counted, counted_value, counted_sum, step, step_value, cut_small, ceil_more, ceil_same}

pub ceiling_low : (v : Float) → lt (fin false 0 (pos 0)) v ≡ false → 0 ≡ ceiling_of v
unfolding ceiling_of lt
ceiling_low nan p = refl
ceiling_low (inf true) p = refl
ceiling_low (inf false) p = absurd (true≢false p)
ceiling_low (fin true m e) p = refl
ceiling_low (fin false m e) p = none (m * up e) (down e) (down_pos e) (nltb→le (0 * down e) (m * up e * 1) (fails (ltb (0 * down e) (m * up e * 1)) p))
  where
    none : (x d : ℕ) → 0 < d → x * 1 ≤ 0 * d → 0 ≡ min ((x + (d - 1)) / d) (2 ^ 64 - 1)
    none x d D h = let q : (x + (d - 1)) / d ≡ 0 = div-eq_of_lt (less x d D h) in omega arith
      where
        less : (x d : ℕ) → 0 < d → x * 1 ≤ 0 * d → x + (d - 1) < d
        less x d D h = omega arith

pub ceiling_within : (v : Float) → T (positive v) → (num v + (den v - 1)) / den v < 2 ^ 64 → (num v + (den v - 1)) / den v ≡ ceiling_of v
unfolding ceiling_of
ceiling_within nan p l = absurd p
ceiling_within (inf s) p l = absurd p
ceiling_within (fin true m e) p l = absurd p
ceiling_within (fin false m e) p l = least ((m * up e + (down e - 1)) / down e) l
  where
    least : (x : ℕ) → x < 2 ^ 64 → x ≡ min x (2 ^ 64 - 1)
    least x h = omega arith

pub ceiling_stays : {v : Float} → Stays v → to_unsigned 64 v ≡ ceiling_of v
unfolding ceiling_of to_unsigned
ceiling_stays not_number = refl
ceiling_stays (endless true) = refl
ceiling_stays (endless false) = refl
ceiling_stays (whole true m e h k) = refl
ceiling_stays (whole false m e h k) = same (m * up e) (down e) h
  where
    plain : (n : ℕ) → min (n / 1) (2 ^ 64 - 1) ≡ min ((n + (1 - 1)) / 1) (2 ^ 64 - 1)
    plain n = omega arith

    same : (n d : ℕ) → d ≡ 1 → min (n / d) (2 ^ 64 - 1) ≡ min ((n + (d - 1)) / d) (2 ^ 64 - 1)
    same n d e = subst (λ (d : ℕ). min (n / d) (2 ^ 64 - 1) ≡ min ((n + (d - 1)) / d) (2 ^ 64 - 1)) (sym e) (plain n)

pub ceiling_high : (v : Float) → lt (fin false 0 (pos 0)) v ≡ true → lt v (fin false 1 (pos 64)) ≡ false → 2 ^ 64 - 1 ≡ ceiling_of v
unfolding ceiling_of lt
ceiling_high nan p l = absurd (true≢false (sym p))
ceiling_high (inf true) p l = absurd (true≢false (sym p))
ceiling_high (inf false) p l = refl
ceiling_high (fin true m e) p l = absurd (true≢false (sym p))
ceiling_high (fin false m e) p l = capped (m * up e) (down e) (down_pos e) (nltb→le (m * up e * 1) (2 ^ 64 * down e) (fails (ltb (m * up e * 1) (2 ^ 64 * down e)) l))
  where
    capped : (x d : ℕ) → 0 < d → 2 ^ 64 * d ≤ x * 1 → 2 ^ 64 - 1 ≡ min ((x + (d - 1)) / d) (2 ^ 64 - 1)
    capped x d D h = let q : 2 ^ 64 ≤ (x + (d - 1)) / d = (le-div_iff_mul-le D).1 (more x d h) in omega arith
      where
        more : (x d : ℕ) → 2 ^ 64 * d ≤ x * 1 → 2 ^ 64 * d ≤ x + (d - 1)
        more x d h = omega arith

-- the whole part, and one more where v is above it
pub ceiling_part : (v part : Float) → Small v → part ≡ counted false (num v / den v)
    → add binary64 part (cond (lt part v) (fin false 1 (pos 0)) (fin false 0 (pos 0))) ≡ counted false ((num v + (den v - 1)) / den v)
ceiling_part v part s h =
    let q = num v / den v in
    let small : q < 2 ^ 52 = cut_small v s in
    let has : HasValue part false q 1 = subst (λ (x : Float). HasValue x false q 1) (sym h) (counted_value false q (omega arith)) in
    counted_sum q (step (lt part v)) part _ has (step_value (lt part v))
    ∙ ap (λ (n : ℕ). counted false n)
    (go (lt part v)
    (λ (t : lt part v ≡ true). over_whole v part q s.above_zero has (holds _ t))
    (λ (t : lt part v ≡ false). not_over_whole v part q s.above_zero has (fails _ t)))
  where
    add_zero : (n : ℕ) → n + 0 ≡ n
    add_zero n = omega arith

    go : (b : Bool) → (b ≡ true → num v / den v * den v < num v) → (b ≡ false → num v ≤ num v / den v * den v) → num v / den v + step b ≡ (num v + (den v - 1)) / den v
    go true y n = sym (ceil_more (num v) (den v) (den_pos v) (y refl))
    go false y n = add_zero (num v / den v) ∙ sym (ceil_same (num v) (den v) (den_pos v) (n refl))
