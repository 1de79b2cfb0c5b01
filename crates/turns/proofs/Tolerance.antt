-- The tolerance: one folded constant times the largest of 1, |t_max_x| and |t_max_y|, as the code has it, is document 01's float, whatever the two are.
-- Assumes nothing.
use Rattle.std.proofs.Common.{◌≡◌, ℕ, suc, ◌*◌, ◌^◌, ◌<◌, ◌≤◌, Bool, true, false, ltb, leb, ℤ, negsuc, sym, refl, ap, ◌∙◌, subst, mul-le-mul_right, suc-mul, mul_comm, mul-pos, arith, ltb-false, ltb-true, leb-false, leb-true}
use native.Mathlib.Nat.{mul-mul-mul_comm}
use lib.Ieee.{Float, nan, inf, fin, up, down, unlike, binary64, round, mul, lt, is_nan}
use lib.Ieee.Fits.{down_pos}
use lib.Ieee.Scale.{round_same}
use Rattle.numbers.specs.Order.{greatest_of, magnitude_of}
use Rattle.turns.specs.Turns.{one, tolerance_of}

-- ---- floats of one size

-- the same in sign and number, however the number is written
abbrev Alike : Float → Float → Type 0
Alike nan nan = Unit {0}
Alike nan (inf t) = ⊥
Alike nan (fin t n d) = ⊥
Alike (inf s) nan = ⊥
Alike (inf s) (inf t) = s ≡ t
Alike (inf s) (fin t n d) = ⊥
Alike (fin s m e) nan = ⊥
Alike (fin s m e) (inf t) = ⊥
Alike (fin s m e) (fin t n d) = (s ≡ t) × (m * up e * down d ≡ n * up d * down e)

same_product : (k l a b c d : ℕ) → a * d ≡ b * c → k * a * (l * d) ≡ k * b * (l * c)
same_product k l a b c d h = mul-mul-mul_comm k a l d ∙ ap (λ (z : ℕ). k * l * z) h ∙ sym (mul-mul-mul_comm k b l c)

-- a product turns on nothing else
product_same : (c : ℕ) (f : ℤ) (x y : Float) → Alike x y → mul binary64 (fin false c f) x ≡ mul binary64 (fin false c f) y
unfolding mul
product_same c f nan nan h = refl
product_same c f nan (inf t) h = absurd h
product_same c f nan (fin t n d) h = absurd h
product_same c f (inf s) nan h = absurd h
product_same c f (inf s) (inf t) h = rw h
product_same c f (inf s) (fin t n d) h = absurd h
product_same c f (fin s m e) nan h = absurd h
product_same c f (fin s m e) (inf t) h = absurd h
product_same c f (fin s m e) (fin t n d) h =
    rw h.0
    (round_same binary64 (unlike false t) (c * up f * (m * up e)) (down f * down e) (c * up f * (n * up d)) (down f * down d)
    (mul-pos (down_pos f) (down_pos e)) (mul-pos (down_pos f) (down_pos d))
    (same_product (c * up f) (down f) (m * up e) (n * up d) (down e) (down d) h.1))

-- ---- the greatest of two

pub second : (x y : Float) → lt x y ≡ true → greatest_of x y ≡ y
unfolding greatest_of
second x y h = rw h

pub first : (x y : Float) → lt x y ≡ false → is_nan x ≡ false → greatest_of x y ≡ x
unfolding greatest_of
first x y h k = rw (h, k)

nan_first : (x : Float) → greatest_of nan x ≡ x
unfolding greatest_of lt is_nan
nan_first x = refl

nan_last : (x : Float) → greatest_of x nan ≡ x
unfolding greatest_of lt is_nan
nan_last nan = refl
nan_last (inf s) = refl
nan_last (fin s m e) = refl

pub top_first : (x : Float) → greatest_of (inf false) x ≡ inf false
unfolding greatest_of lt is_nan
top_first nan = refl
top_first (inf t) = refl
top_first (fin t n d) = refl

pub top_last : (x : Float) → greatest_of x (inf false) ≡ inf false
unfolding greatest_of lt is_nan
top_last nan = refl
top_last (inf true) = refl
top_last (inf false) = refl
top_last (fin s m e) = refl

-- ---- fractions a / d and b / e beside 1

under : (a b d e : ℕ) → a * e < b * d → b ≤ e → a ≤ d
under a b d e h k = go (leb a d) refl
  where
    go : (t : Bool) → leb a d ≡ t → a ≤ d
    go true p = leb-true a d p
    go false p = let l : suc d ≤ a = leb-false a d p in absurd (omega (arith, mul-le-mul_right e l, suc-mul d e, mul-le-mul_right d k, mul_comm e d))

within : (a b d e : ℕ) → 0 < d → b * d ≤ a * e → a ≤ d → b ≤ e
within a b d e z h k = go (leb b e) refl
  where
    go : (t : Bool) → leb b e ≡ t → b ≤ e
    go true p = leb-true b e p
    go false p = let l : suc e ≤ b = leb-false b e p in absurd (omega (arith, mul-le-mul_right d l, suc-mul e d, mul-le-mul_right e k, mul_comm e d))

-- ---- the order in which the largest is sought

alike_by : {x y u v : Float} → x ≡ u → y ≡ v → Alike u v → Alike x y
alike_by {x} {y} {u} {v} p q h = subst (λ (z : Float). Alike z y) (sym p) (subst (λ (z : Float). Alike u z) (sym q) h)

module _ (m : ℕ) (e : ℤ) where
  abbrev a : Float
  a = fin false m e

  swapped : Alike (greatest_of a one) (greatest_of one a)
  unfolding lt is_nan
  swapped = go (ltb (m * up e * 1) (1 * down e)) refl (ltb (1 * down e) (m * up e * 1)) refl
    where
      go : (p : Bool) → ltb (m * up e * 1) (1 * down e) ≡ p → (q : Bool) → ltb (1 * down e) (m * up e * 1) ≡ q → Alike (greatest_of a one) (greatest_of one a)
      go true p true q = absurd (omega (arith, ltb-true (m * up e * 1) (1 * down e) p, ltb-true (1 * down e) (m * up e * 1) q))
      go true p false q = alike_by (second a one p) (first one a q refl) (refl, refl)
      go false p true q = alike_by (first a one p refl) (second one a q) (refl, refl)
      go false p false q = alike_by (first a one p refl) (first one a q refl) (refl, omega (arith, ltb-false (m * up e * 1) (1 * down e) p, ltb-false (1 * down e) (m * up e * 1) q))

  module _ (n : ℕ) (d : ℤ) where
    abbrev b : Float
    b = fin false n d

    abbrev Goal : Type 0
    Goal = Alike (greatest_of (greatest_of a b) one) (greatest_of (greatest_of one a) b)

    -- a < b
    above : ltb (m * up e * down d) (n * up d * down e) ≡ true → (p : Bool) → ltb (n * up d * 1) (1 * down d) ≡ p → (q : Bool) → ltb (1 * down e) (m * up e * 1) ≡ q
        → (r : Bool) → ltb (1 * down d) (n * up d * 1) ≡ r → Goal
    unfolding lt is_nan
    above t true p true q r l =
        let x = ltb-true (n * up d * 1) (1 * down d) p in
        let y = ltb-true (1 * down e) (m * up e * 1) q in
        absurd (omega (arith, under (m * up e) (n * up d) (down e) (down d) (ltb-true (m * up e * down d) (n * up d * down e) t) (omega arith)))
    above t true p false q true l = absurd (omega (arith, ltb-true (n * up d * 1) (1 * down d) p, ltb-true (1 * down d) (n * up d * 1) l))
    above t true p false q false l =
        alike_by (ap (λ (z : Float). greatest_of z one) (second a b t) ∙ second b one p) (ap (λ (z : Float). greatest_of z b) (first one a q refl) ∙ first one b l refl) (refl, refl)
    above t false p true q r l =
        alike_by (ap (λ (z : Float). greatest_of z one) (second a b t) ∙ first b one p refl) (ap (λ (z : Float). greatest_of z b) (second one a q) ∙ second a b t) (refl, refl)
    above t false p false q true l =
        alike_by (ap (λ (z : Float). greatest_of z one) (second a b t) ∙ first b one p refl) (ap (λ (z : Float). greatest_of z b) (first one a q refl) ∙ second one b l) (refl, refl)
    above t false p false q false l =
        alike_by (ap (λ (z : Float). greatest_of z one) (second a b t) ∙ first b one p refl) (ap (λ (z : Float). greatest_of z b) (first one a q refl) ∙ first one b l refl)
        (refl, omega (arith, ltb-false (n * up d * 1) (1 * down d) p, ltb-false (1 * down d) (n * up d * 1) l))

    -- b ≤ a
    not_above : ltb (m * up e * down d) (n * up d * down e) ≡ false → (p : Bool) → ltb (m * up e * 1) (1 * down e) ≡ p → (q : Bool) → ltb (1 * down e) (m * up e * 1) ≡ q
        → (r : Bool) → ltb (1 * down d) (n * up d * 1) ≡ r → Goal
    unfolding lt is_nan
    not_above t true p true q r l = absurd (omega (arith, ltb-true (m * up e * 1) (1 * down e) p, ltb-true (1 * down e) (m * up e * 1) q))
    not_above t p u false q true l =
        let y = ltb-false (1 * down e) (m * up e * 1) q in
        let z = ltb-true (1 * down d) (n * up d * 1) l in
        absurd (omega (arith, within (m * up e) (n * up d) (down e) (down d) (down_pos e) (ltb-false (m * up e * down d) (n * up d * down e) t) (omega arith)))
    not_above t true p false q false l =
        alike_by (ap (λ (z : Float). greatest_of z one) (first a b t refl) ∙ second a one p) (ap (λ (z : Float). greatest_of z b) (first one a q refl) ∙ first one b l refl) (refl, refl)
    not_above t false p true q r l =
        alike_by (ap (λ (z : Float). greatest_of z one) (first a b t refl) ∙ first a one p refl) (ap (λ (z : Float). greatest_of z b) (second one a q) ∙ first a b t refl) (refl, refl)
    not_above t false p false q false l =
        alike_by (ap (λ (z : Float). greatest_of z one) (first a b t refl) ∙ first a one p refl) (ap (λ (z : Float). greatest_of z b) (first one a q refl) ∙ first one b l refl)
        (refl, omega (arith, ltb-false (m * up e * 1) (1 * down e) p, ltb-false (1 * down e) (m * up e * 1) q))

    both_finite : Goal
    both_finite = go (ltb (m * up e * down d) (n * up d * down e)) refl
      where
        go : (t : Bool) → ltb (m * up e * down d) (n * up d * down e) ≡ t → Goal
        go true t = above t (ltb (n * up d * 1) (1 * down d)) refl (ltb (1 * down e) (m * up e * 1)) refl (ltb (1 * down d) (n * up d * 1)) refl
        go false t = not_above t (ltb (m * up e * 1) (1 * down e)) refl (ltb (1 * down e) (m * up e * 1)) refl (ltb (1 * down d) (n * up d * 1)) refl

-- the largest, sought in document 01's order and in the code's
largest : (x y : Float) → Alike (greatest_of (greatest_of (magnitude_of x) (magnitude_of y)) one) (greatest_of (greatest_of one (magnitude_of x)) (magnitude_of y))
unfolding magnitude_of
largest nan nan = alike_by (ap (λ (z : Float). greatest_of z one) (nan_last nan) ∙ nan_first one) (nan_last (greatest_of one nan) ∙ nan_last one) (refl, refl)
largest nan (inf t) = alike_by (ap (λ (z : Float). greatest_of z one) (nan_first (inf false)) ∙ top_first one) (top_last (greatest_of one nan)) refl
largest nan (fin t n d) = alike_by (ap (λ (z : Float). greatest_of z one) (nan_first (fin false n d))) (ap (λ (z : Float). greatest_of z (fin false n d)) (nan_last one)) (swapped n d)
largest (inf s) y = alike_by (ap (λ (z : Float). greatest_of z one) (top_first (magnitude_of y)) ∙ top_first one) (ap (λ (z : Float). greatest_of z (magnitude_of y)) (top_last one) ∙ top_first (magnitude_of y)) refl
largest (fin s m e) nan = alike_by (ap (λ (z : Float). greatest_of z one) (nan_last (fin false m e))) (nan_last (greatest_of one (fin false m e))) (swapped m e)
largest (fin s m e) (inf t) = alike_by (ap (λ (z : Float). greatest_of z one) (top_last (fin false m e)) ∙ top_first one) (top_last (greatest_of one (fin false m e))) refl
largest (fin s m e) (fin t n d) = both_finite m e n d

-- 8 times 2^-52 is exact
pub constant : mul binary64 (round binary64 false 8 1) (round binary64 false 1 (2 ^ 52)) ≡ fin false 1 (negsuc 48)
unfolding mul round
constant = refl

pub tolerance_is : (tx ty : Float) → mul binary64 (fin false 1 (negsuc 48)) (greatest_of (greatest_of one (magnitude_of tx)) (magnitude_of ty)) ≡ tolerance_of tx ty
unfolding tolerance_of
tolerance_is tx ty =
    let l = greatest_of (greatest_of (magnitude_of tx) (magnitude_of ty)) one in
    sym (product_same 1 (negsuc 48) l (greatest_of (greatest_of one (magnitude_of tx)) (magnitude_of ty)) (largest tx ty))
    ∙ ap (λ (c : Float). mul binary64 c l) (sym constant)
