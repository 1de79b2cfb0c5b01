-- Laws of `ceiling_of`, for the crates above. `HasValue v false a c` says that v is a / c, with a plus sign, and `Cover a c q` that
-- q - 1 < a / c ≤ q. Assumes nothing.
use Rattle.std.proofs.Common.{◌≡◌, ℕ, zero, suc, ◌+◌, ◌-◌, ◌*◌, ◌/◌, ◌^◌, ◌<◌, ◌≤◌, min, true, false, T, pos, sym, refl, subst, true≢false, zero-le, le_trans, le_of_eq, lt_of_lt_of_le, mul-le-mul_right, zero-lt-suc, add-mul, lt_of_mul-lt-mul_right, one-mul, lt_of_not-le, arith}
use native.Mathlib.Decide.{dec_le}
use lib.Ieee.{Float, nan, inf, fin, up, down, lt, le}
use lib.Ieee.Exact.{HasValue}
use lib.Ieee.Fits.{down_pos}
use Rattle.numbers.specs.Ceiling.{ceiling_of}
use Rattle.numbers.proofs.Fractions.{Cover, cover_by, cover_same, cover_mono}
use Rattle.numbers.proofs.Tests.{le_says, le_minus}
use Rattle.numbers.proofs.CeilingCases.{ceiling_low}

-- the first whole number that is not below v, or the largest of 64 bits
record Ceil (v : Float) (a c : ℕ) : Type 0 where
  pub q : ℕ
  pub cover : Cover a c q
  pub is : ceiling_of v ≡ min q (2 ^ 64 - 1)

ceil_of : (v : Float) (a c : ℕ) → 0 < c → HasValue v false a c → Ceil v a c
unfolding ceiling_of
ceil_of nan a c C h = absurd h
ceil_of (inf s) a c C h = absurd h
ceil_of (fin true m e) a c C h = absurd (true≢false h.0)
ceil_of (fin false m e) a c C h = record {
  q = (m * up e + (down e - 1)) / down e;
  cover = cover_same (m * up e) (down e) a c (down_pos e) C h.1 ((m * up e + (down e - 1)) / down e) (cover_by (m * up e) (down e) (down_pos e));
  is = refl;
}

-- a / c is at most k, so the whole number is
cover_most : (a c q k : ℕ) → Cover a c q → a ≤ k * c → q ≤ k
cover_most a c q k p h = last (lt_of_mul-lt-mul_right c (lt_of_lt_of_le p.last_below (le_trans (more h) (le_of_eq (sym (add-mul k 1 c))))))
  where
    more : {x : ℕ} → a ≤ x → a + c ≤ x + 1 * c
    more h = omega arith

    last : {q r : ℕ} → q < r + 1 → q ≤ r
    last h = omega arith

-- the ceiling is at most each whole number that is not below v
pub ceiling_most : (v : Float) (a c k : ℕ) → 0 < c → HasValue v false a c → a ≤ k * c → ceiling_of v ≤ k
ceiling_most v a c k C h l = let x = ceil_of v a c C h in let u = cover_most a c x.q k x.cover l in let e = x.is in omega arith

-- of a value that fits in 64 bits it is the first such number
pub ceiling_cover : (v : Float) (a c : ℕ) → 0 < c → HasValue v false a c → a ≤ (2 ^ 64 - 1) * c → Cover a c (ceiling_of v)
ceiling_cover v a c C h l =
    let x = ceil_of v a c C h in
    let u : x.q ≤ 2 ^ 64 - 1 = cover_most a c x.q (2 ^ 64 - 1) x.cover l in
    let e = x.is in
    let k : ceiling_of v ≡ x.q = omega arith in
    subst (λ (n : ℕ). Cover a c n) (sym k) x.cover

-- above zero it is at least 1
pub ceiling_some : (v : Float) (a c : ℕ) → 0 < c → HasValue v false a c → 0 < a → 0 < ceiling_of v
ceiling_some v a c C h l = let x = ceil_of v a c C h in let e = x.is in let u : 0 < x.q = some x.q c a l x.cover.not_below in omega arith
  where
    some : (q c a : ℕ) → 0 < a → a ≤ q * c → 0 < q
    some zero c a l h = absurd (none c a l h)
      where
        none : (c a : ℕ) → 0 < a → a ≤ 0 * c → ⊥
        none c a l h = omega arith
    some (suc q) c a l h = zero-lt-suc q

-- of what is not above zero, and of a NaN, it is 0
pub ceiling_zero : (v : Float) → lt (fin false 0 (pos 0)) v ≡ false → ceiling_of v ≡ 0
ceiling_zero v h = sym (ceiling_low v h)

-- where w is at most k times v, its ceiling is at most k times that of v: for k = 2, a quotient by half of a divisor
pub ceiling_times : (v w : Float) (a c b d k : ℕ) → 0 < c → 0 < d → 0 < k → HasValue v false a c → HasValue w false b d → b * c ≤ k * (a * d) → ceiling_of w ≤ k * ceiling_of v
ceiling_times v w a c b d k C D K h g l =
    let x = ceil_of v a c C h in
    let y = ceil_of w b d D g in
    through (ceiling_of v) (ceiling_of w) x.q y.q x.is y.is (cover_mono b d a c y.q x.q k D C l y.cover x.cover)
  where
    capped : (q r : ℕ) → r ≤ k * q → min r (2 ^ 64 - 1) ≤ k * min q (2 ^ 64 - 1)
    capped q r h = go (dec_le q (2 ^ 64 - 1))
      where
        go : Dec (q ≤ 2 ^ 64 - 1) → min r (2 ^ 64 - 1) ≤ k * min q (2 ^ 64 - 1)
        go (yes s) = let e : min q (2 ^ 64 - 1) ≡ q = omega arith in subst (λ (z : ℕ). min r (2 ^ 64 - 1) ≤ k * z) (sym e) (let u : min r (2 ^ 64 - 1) ≤ r = omega arith in le_trans u h)
        go (no s) =
            let e : min q (2 ^ 64 - 1) ≡ 2 ^ 64 - 1 = let u = lt_of_not-le s in omega arith in
            subst (λ (z : ℕ). min r (2 ^ 64 - 1) ≤ k * z) (sym e) (let u : min r (2 ^ 64 - 1) ≤ 1 * (2 ^ 64 - 1) = omega arith in le_trans u (mul-le-mul_right (2 ^ 64 - 1) K))

    through : (m n q r : ℕ) → m ≡ min q (2 ^ 64 - 1) → n ≡ min r (2 ^ 64 - 1) → r ≤ k * q → n ≤ k * m
    through m n q r e f h = subst (λ (z : ℕ). z ≤ k * m) (sym f) (subst (λ (z : ℕ). min r (2 ^ 64 - 1) ≤ k * z) (sym e) (capped q r h))

-- a larger value has no smaller ceiling
pub ceiling_mono : (v w : Float) → T (le v w) → ceiling_of v ≤ ceiling_of w
ceiling_mono nan w h = unfold ceiling_of in zero-le
ceiling_mono (inf true) w h = unfold ceiling_of in zero-le
ceiling_mono (fin true m e) w h = unfold ceiling_of in zero-le
ceiling_mono (inf false) nan h = absurd (unfold le in h)
ceiling_mono (inf false) (inf true) h = absurd (unfold le in h)
ceiling_mono (inf false) (inf false) h = le_of_eq refl
ceiling_mono (inf false) (fin s n g) h = absurd (unfold le in h)
ceiling_mono (fin false m e) nan h = absurd (unfold le in h)
ceiling_mono (fin false m e) (inf true) h = absurd (unfold le in h)
ceiling_mono (fin false m e) (inf false) h = unfold ceiling_of in capped ((m * up e + (down e - 1)) / down e) (2 ^ 64 - 1)
  where
    capped : (x n : ℕ) → min x n ≤ n
    capped x n = omega arith
ceiling_mono (fin false m e) (fin true n g) h = le_trans (ceiling_most (fin false m e) (m * up e) (down e) 0 (down_pos e) (refl, refl) (none (m * up e) (down e) (le_minus m e n g h))) zero-le
  where
    none : (x d : ℕ) → x ≡ 0 → x ≤ 0 * d
    none x d h = omega arith
ceiling_mono (fin false m e) (fin false n g) h =
    le_trans
    (ceiling_times (fin false n g) (fin false m e) (n * up g) (down g) (m * up e) (down e) 1 (down_pos g) (down_pos e) (zero-lt-suc 0) (refl, refl) (refl, refl) (le_trans (le_says m e n g h) (le_of_eq (sym (one-mul (n * up g * down e))))))
    (le_of_eq (one-mul (ceiling_of (fin false n g))))
