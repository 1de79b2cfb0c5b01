-- The cases of `least`, `greatest` and `magnitude`. Assumes nothing.
use Rattle.std.proofs.Common.{◌≡◌, ℕ, zero, suc, ◌+◌, ◌-◌, ◌*◌, ◌<◌, Bool, true, false, cond, not, ◌&&◌, ◌||◌, T, eqb, ltb, ℤ, pos, sym, refl, ap, ◌∙◌, subst, inl, inr, true≢false, one-mul, zero-mul, mul-one, arith, eqb→eq, ltb→lt, lt→ltb, T_not}
use mathlib.Core.Bool.{beq}
use lib.Dec.{eqb_refl}
use lib.Ieee.{Float, nan, inf, fin, binary64, up, down, round, sub, lt, le, ne, is_nan, fits}
use lib.Ieee.Fits.{down_pos, and_l}
use lib.Ieee.Bits.{is_true}
use Rattle.numbers.specs.Order.{least_of, greatest_of, magnitude_of}
use Rattle.numbers.proofs.Values.{round_back}
use Rattle.numbers.proofs.Tests.{or_cases, or_left, or_right}

-- ---- `least` and `greatest`

-- only a NaN differs from itself
pub self_differs : (v : Float) → ne v v ≡ is_nan v
unfolding ne is_nan
self_differs nan = refl
self_differs (inf true) = refl
self_differs (inf false) = refl
self_differs (fin s m e) = ap (λ (b : Bool). not (b && (beq s s || eqb (m * up e * down e) 0))) (is_true (eqb (m * up e * down e) (m * up e * down e)) (eqb_refl (m * up e * down e))) ∙ same s (eqb (m * up e * down e) 0)
  where
    same : (s b : Bool) → not (beq s s || b) ≡ false
    same true b = refl
    same false b = refl

module _ (a b : Float) where
  pub least_second : lt b a ≡ true → b ≡ least_of a b
  unfolding least_of
  least_second h = rw h

  pub least_not_number : lt b a ≡ false → ne a a ≡ true → b ≡ least_of a b
  unfolding least_of
  least_not_number h k = rw (h, ← self_differs a, k)

  pub least_first : lt b a ≡ false → ne a a ≡ false → a ≡ least_of a b
  unfolding least_of
  least_first h k = rw (h, ← self_differs a, k)

  pub greatest_second : lt a b ≡ true → b ≡ greatest_of a b
  unfolding greatest_of
  greatest_second h = rw h

  pub greatest_not_number : lt a b ≡ false → ne a a ≡ true → b ≡ greatest_of a b
  unfolding greatest_of
  greatest_not_number h k = rw (h, ← self_differs a, k)

  pub greatest_first : lt a b ≡ false → ne a a ≡ false → a ≡ greatest_of a b
  unfolding greatest_of
  greatest_first h k = rw (h, ← self_differs a, k)

-- ---- `magnitude`

-- a format holds a value and its opposite
fits_sign : (s t : Bool) (m : ℕ) (e : ℤ) → T (fits binary64 (fin s m e)) → T (fits binary64 (fin t m e))
unfolding fits
fits_sign s t zero e h = h
fits_sign s t (suc m) e h = h

-- x / d is not above zero, so it is zero
no_more : (x d : ℕ) → T (ltb (x * 1) (0 * d) || eqb (x * 1) (0 * d) && true) → x * 1 ≡ 0
no_more x d t = elim (or_cases (ltb (x * 1) (0 * d)) (eqb (x * 1) (0 * d) && true) t) [ inl l ↦ absurd (none x d (ltb→lt (x * 1) (0 * d) l)) | inr r ↦ eqb→eq (x * 1) (0 * d) (and_l (eqb (x * 1) (0 * d)) true r) ∙ zero-mul d ]
  where
    none : (x d : ℕ) → x * 1 < 0 * d → ⊥
    none x d h = omega arith

-- what has a minus sign is not above zero
minus_below : (x d : ℕ) → T (ltb 0 (x * 1 + 0 * d) || eqb (x * 1) (0 * d) && eqb (x * 1) 0)
minus_below zero d = or_right (ltb 0 (0 * 1 + 0 * d)) (eqb 0 (0 * d) && true) (subst (λ (z : ℕ). T (eqb 0 z && true)) (sym (zero-mul d)) tt)
minus_below (suc x) d = or_left (ltb 0 (suc x * 1 + 0 * d)) (eqb (suc x * 1) (0 * d) && eqb (suc x * 1) 0) (lt→ltb 0 (suc x * 1 + 0 * d) (some x d))
  where
    some : (x d : ℕ) → 0 < suc x * 1 + 0 * d
    some x d = omega arith

pub magnitude_flips : (v : Float) → T (fits binary64 v) → le v (fin false 0 (pos 0)) ≡ true → sub binary64 (fin false 0 (pos 0)) v ≡ magnitude_of v
unfolding le sub magnitude_of
magnitude_flips nan t h = refl
magnitude_flips (inf true) t h = refl
magnitude_flips (inf false) t h = absurd (true≢false (sym h))
magnitude_flips (fin true m e) t h = round_back binary64 false m e (0 * 1 * down e + m * up e * 1) (1 * down e) (fits_sign true false m e t) (rw one-mul (down_pos e)) (flipped (m * up e) (down e))
  where
    flipped : (x d : ℕ) → x * (1 * d) ≡ (0 * 1 * d + x * 1) * d
    flipped x d = ap (λ (z : ℕ). x * z) (one-mul d) ∙ ap (λ (z : ℕ). z * d) (plain x d)
      where
        plain : (x d : ℕ) → x ≡ 0 * 1 * d + x * 1
        plain x d = omega arith
magnitude_flips (fin false m e) t h = flat (m * up e * 1) (no_more (m * up e) (down e) (subst T (sym h) tt)) (mul-one (m * up e))
  where
    d : ℕ
    d = down e

    flat : (x : ℕ) → x ≡ 0 → x ≡ m * up e → cond (ltb (0 * d) x) (round binary64 true (x - 0 * d) (1 * d)) (round binary64 false (0 * d - x) (1 * d)) ≡ fin false m e
    flat x z y = rw (z, zero-mul d) (round_back binary64 false m e 0 (1 * d) t (rw one-mul (down_pos e)) (ap (λ (u : ℕ). u * (1 * d)) (sym y ∙ z) ∙ zero-mul (1 * d) ∙ sym (zero-mul d)))

pub magnitude_stays : (v : Float) → le v (fin false 0 (pos 0)) ≡ false → v ≡ magnitude_of v
unfolding le magnitude_of
magnitude_stays nan h = refl
magnitude_stays (inf true) h = absurd (true≢false h)
magnitude_stays (inf false) h = refl
magnitude_stays (fin false m e) h = refl
magnitude_stays (fin true m e) h = absurd (T_not (ltb 0 (m * up e * 1 + 0 * down e) || eqb (m * up e * 1) (0 * down e) && eqb (m * up e * 1) 0) (subst (λ (b : Bool). T (not b)) (sym h) tt) (minus_below (m * up e) (down e)))
