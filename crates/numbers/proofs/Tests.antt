-- Tests on floats as facts on fractions: `HasValue x false a c` says that x is a / c. Assumes nothing.
use Rattle.std.proofs.Common.{◌≡◌, ℕ, zero, suc, ◌*◌, ◌<◌, ◌≤◌, Bool, true, false, not, ◌&&◌, ◌||◌, T, eqb, ltb, ◌⊎◌, ℤ, pos, sym, refl, ◌∙◌, subst, inl, inr, true≢false, le_of_eq, le_of_lt, zero-lt-suc, lt_of_not-le, zero-mul, mul-one, not-le_of_lt, arith, eqb→eq, ltb→lt, lt→ltb, nltb→le}
use native.Mathlib.Nat.{eq_of_mul-eq-mul_right}
use lib.Ieee.{Float, nan, inf, fin, up, down, lt, le}
use lib.Ieee.Exact.{HasValue}
use lib.Ieee.Fits.{down_pos, and_l, and_r}
use lib.Ieee.Order.{transfer}
use lib.Ieee.Positive.{num, den, positive, den_pos, own_value}
use Rattle.numbers.proofs.Values.{above_minus_one}

pub holds : (b : Bool) → b ≡ true → T b
holds b e = subst T (sym e) tt

pub fails : (b : Bool) → b ≡ false → T (not b)
fails b e = subst (λ (x : Bool). T (not x)) (sym e) tt

-- one of two tests passes
pub or_cases : (a b : Bool) → T (a || b) → T a ⊎ T b
or_cases true b t = inl tt
or_cases false b t = inr t

pub or_left : (a b : Bool) → T a → T (a || b)
or_left true b t = tt
or_left false b t = absurd t

pub or_right : (a b : Bool) → T b → T (a || b)
or_right true b t = tt
or_right false b t = t

nothing : (x y : ℕ) → T (ltb (0 * y) (0 * x * 1)) → ⊥
nothing x y t = let h : 0 * y < 0 * x * 1 = ltb→lt (0 * y) (0 * x * 1) t in omega arith

-- nothing is above the infinity
none_above : (w : Float) → T (lt (inf false) w) → ⊥
unfolding lt
none_above nan t = t
none_above (inf s) t = t
none_above (fin s m e) t = t

pub positive_under : (v w : Float) → T (lt (fin false 0 (pos 0)) v) → T (lt v w) → T (positive v)
unfolding lt
positive_under nan w p l = absurd p
positive_under (inf false) w p l = absurd (none_above w l)
positive_under (inf true) w p l = absurd p
positive_under (fin true m e) w p l = absurd p
positive_under (fin false zero e) w p l = absurd (nothing (up e) (down e) p)
positive_under (fin false (suc m) e) w p l = lt→ltb 0 (suc m) (zero-lt-suc m)

pub past_minus_one : (v : Float) → lt (fin false 0 (pos 0)) v ≡ true → T (lt (fin true 1 (pos 0)) v)
unfolding lt
past_minus_one nan p = absurd (true≢false (sym p))
past_minus_one (inf true) p = absurd (true≢false (sym p))
past_minus_one (inf false) p = tt
past_minus_one (fin true m e) p = absurd (true≢false (sym p))
past_minus_one (fin false m e) p = above_minus_one (fin false m e) (m * up e) (down e) (refl, refl)

-- x = a / c is below y = b / d, or not
pub lt_says : (x y : Float) (a c b d : ℕ) → 0 < c → 0 < d → HasValue x false a c → HasValue y false b d → T (lt x y) → a * d < b * c
unfolding lt
lt_says nan y a c b d C D v w t = absurd v
lt_says (inf s) y a c b d C D v w t = absurd v
lt_says (fin true m e) y a c b d C D v w t = absurd (true≢false v.0)
lt_says (fin false m e) nan a c b d C D v w t = absurd w
lt_says (fin false m e) (inf s) a c b d C D v w t = absurd w
lt_says (fin false m e) (fin true n g) a c b d C D v w t = absurd (true≢false w.0)
lt_says (fin false m e) (fin false n g) a c b d C D v w t =
    lt_of_not-le (λ (h : b * c ≤ a * d). not-le_of_lt (ltb→lt (m * up e * down g) (n * up g * down e) t) (transfer (n * up g) (m * up e) (down g) (down e) b a d c D C w.1 v.1 h))

pub not_lt_says : (x y : Float) (a c b d : ℕ) → 0 < c → 0 < d → HasValue x false a c → HasValue y false b d → T (not (lt x y)) → b * c ≤ a * d
unfolding lt
not_lt_says nan y a c b d C D v w t = absurd v
not_lt_says (inf s) y a c b d C D v w t = absurd v
not_lt_says (fin true m e) y a c b d C D v w t = absurd (true≢false v.0)
not_lt_says (fin false m e) nan a c b d C D v w t = absurd w
not_lt_says (fin false m e) (inf s) a c b d C D v w t = absurd w
not_lt_says (fin false m e) (fin true n g) a c b d C D v w t = absurd (true≢false w.0)
not_lt_says (fin false m e) (fin false n g) a c b d C D v w t =
    transfer b a d c (n * up g) (m * up e) (down g) (down e) (down_pos g) (down_pos e) (sym w.1) (sym v.1) (nltb→le (m * up e * down g) (n * up g * down e) t)

-- v is below the whole number n, or n below v, or neither
pub under_whole : (v w : Float) (n : ℕ) → T (positive v) → HasValue w false n 1 → T (lt v w) → num v < n * den v
under_whole v w n p h t = subst (λ (x : ℕ). x < n * den v) (mul-one (num v)) (lt_says v w (num v) (den v) n 1 (den_pos v) (zero-lt-suc 0) (own_value v p) h t)

pub over_whole : (v w : Float) (n : ℕ) → T (positive v) → HasValue w false n 1 → T (lt w v) → n * den v < num v
over_whole v w n p h t = subst (λ (x : ℕ). n * den v < x) (mul-one (num v)) (lt_says w v n 1 (num v) (den v) (zero-lt-suc 0) (den_pos v) h (own_value v p) t)

pub not_over_whole : (v w : Float) (n : ℕ) → T (positive v) → HasValue w false n 1 → T (not (lt w v)) → num v ≤ n * den v
not_over_whole v w n p h t = subst (λ (x : ℕ). x ≤ n * den v) (mul-one (num v)) (not_lt_says w v n 1 (num v) (den v) (zero-lt-suc 0) (den_pos v) h (own_value v p) t)

pub not_under_whole : (v w : Float) (n : ℕ) → T (positive v) → HasValue w false n 1 → T (not (lt v w)) → n * den v ≤ num v
not_under_whole v w n p h t = subst (λ (x : ℕ). n * den v ≤ x) (mul-one (num v)) (not_lt_says v w (num v) (den v) n 1 (den_pos v) (zero-lt-suc 0) (own_value v p) h t)

-- x = a / c is at most y = b / d
pub le_says : (m : ℕ) (e : ℤ) (n : ℕ) (g : ℤ) → T (le (fin false m e) (fin false n g)) → m * up e * down g ≤ n * up g * down e
unfolding le
le_says m e n g t = elim (or_cases (ltb A B) (eqb A B && true) t) [ inl l ↦ le_of_lt (ltb→lt A B l) | inr r ↦ le_of_eq (eqb→eq A B (and_l (eqb A B) true r)) ]
  where
    A : ℕ
    A = m * up e * down g

    B : ℕ
    B = n * up g * down e

-- a value with a plus sign that is at most one with a minus sign: both are zero
pub le_minus : (m : ℕ) (e : ℤ) (n : ℕ) (g : ℤ) → T (le (fin false m e) (fin true n g)) → m * up e ≡ 0
unfolding le
le_minus m e n g t = eq_of_mul-eq-mul_right (down g) (down_pos g) (m * up e) 0 (eqb→eq A 0 (and_r (eqb A (n * up g * down e)) (eqb A 0) t) ∙ sym (zero-mul (down g)))
  where
    A : ℕ
    A = m * up e * down g

pub minus_le : (m : ℕ) (e : ℤ) (n : ℕ) (g : ℤ) → T (le (fin false m e) (fin true n g)) → n * up g ≡ 0
unfolding le
minus_le m e n g t =
    eq_of_mul-eq-mul_right (down e) (down_pos e) (n * up g) 0
    (sym (eqb→eq A B (and_l (eqb A B) (eqb A 0) t)) ∙ eqb→eq A 0 (and_r (eqb A B) (eqb A 0) t) ∙ sym (zero-mul (down e)))
  where
    A : ℕ
    A = m * up e * down g

    B : ℕ
    B = n * up g * down e
