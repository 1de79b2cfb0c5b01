-- Laws of `clamped_floor` and `floor_of`, for the crates above. A value is given as a fraction, `HasValue v s a c`: v is a / c, with a minus sign
-- where s is true. `Part a c q` says q ≤ a / c < q + 1, and `Cover a c q` says q - 1 < a / c ≤ q. Assumes nothing.
use Rattle.std.proofs.Common.{◌≡◌, ℕ, ◌+◌, ◌-◌, ◌*◌, ◌/◌, ◌^◌, ◌<◌, ◌≤◌, min, true, false, T, ℤ, pos, sym, refl, ap, ◌∙◌, subst, true≢false, zero-le, le_trans, le_of_eq, zero-lt-suc, div-lt_iff_lt-mul, one-mul, le-div_iff_mul-le, mul-one, div-one, arith}
use native.Mathlib.Nat.{div-eq_of_lt}
use lib.Ieee.{Float, nan, inf, fin, binary64, up, down, round, neg, lt, le, fits}
use lib.Ieee.Exact.{HasValue}
use lib.Ieee.Fits.{down_pos}
use lib.Ieee.Nearest.{div_same}
use lib.Ieee.Order.{round_mono}
use Rattle.numbers.specs.Floor.{floor_of, clamped_floor}
use Rattle.numbers.proofs.Fractions.{Part, Cover, part_by, cover_by, cover_same, cover_mono, div_le}
use Rattle.numbers.proofs.Values.{neg_round}
use Rattle.numbers.proofs.Tests.{le_says, le_minus, minus_le}
use Rattle.numbers.proofs.WholeLaws.{counted, exact_whole, ceil_small}
use Rattle.numbers.proofs.FloorCases.{clamped_low}
use Rattle.numbers.proofs.FloatOrder.{number, float_le_trans, le_neg, le_number, least_of_all, greatest_of_all}
use Rattle.numbers.proofs.FloatSum as FloatSum
use Rattle.numbers.proofs.FloatSum.{round_number}

-- ---- the clamped floor

-- it is an index below the count
pub clamped_below : (v : Float) (count : ℕ) → 0 < count → clamped_floor v count < count
unfolding clamped_floor
clamped_below nan count h = h
clamped_below (inf true) count h = h
clamped_below (inf false) count h = omega arith
clamped_below (fin true m e) count h = h
clamped_below (fin false m e) count h = least (m * up e / down e) count h
  where
    least : (x c : ℕ) → 0 < c → min x (c - 1) < c
    least x c h = omega arith

pub clamped_is : (v : Float) (a c count : ℕ) → 0 < c → HasValue v false a c → clamped_floor v count ≡ min (a / c) (count - 1)
unfolding clamped_floor
clamped_is nan a c count C h = absurd h
clamped_is (inf s) a c count C h = absurd h
clamped_is (fin true m e) a c count C h = absurd (true≢false h.0)
clamped_is (fin false m e) a c count C h = ap (λ (n : ℕ). min n (count - 1)) (div_same (m * up e) (down e) a c (down_pos e) C h.1)

-- of a value below the count it is the whole part
pub clamped_part : (v : Float) (a c count : ℕ) → 0 < c → HasValue v false a c → a < count * c → Part a c (clamped_floor v count)
clamped_part v a c count C h l = subst (λ (n : ℕ). Part a c n) (sym (clamped_is v a c count C h ∙ whole (a / c) count ((div-lt_iff_lt-mul C).1 l))) (part_by a c C)
  where
    whole : (x n : ℕ) → x < n → min x (n - 1) ≡ x
    whole x n h = omega arith

-- and from there on it is the last index
pub clamped_last : (v : Float) (a c count : ℕ) → 0 < c → HasValue v false a c → count * c ≤ a → clamped_floor v count ≡ count - 1
clamped_last v a c count C h l = clamped_is v a c count C h ∙ capped (a / c) count ((le-div_iff_mul-le C).1 l)
  where
    capped : (x n : ℕ) → n ≤ x → min x (n - 1) ≡ n - 1
    capped x n h = omega arith

-- of what is not above zero, and of a NaN, it is 0
pub clamped_zero : (v : Float) (count : ℕ) → lt (fin false 0 (pos 0)) v ≡ false → clamped_floor v count ≡ 0
clamped_zero v count h = sym (clamped_low v count h)

-- a larger value has no smaller index
pub clamped_mono : (v w : Float) (count : ℕ) → T (le v w) → clamped_floor v count ≤ clamped_floor w count
unfolding clamped_floor
clamped_mono nan w count h = zero-le
clamped_mono (inf true) w count h = zero-le
clamped_mono (fin true m e) w count h = zero-le
clamped_mono (inf false) nan count h = absurd (unfold le in h)
clamped_mono (inf false) (inf true) count h = absurd (unfold le in h)
clamped_mono (inf false) (inf false) count h = le_of_eq refl
clamped_mono (inf false) (fin s n g) count h = absurd (unfold le in h)
clamped_mono (fin false m e) nan count h = absurd (unfold le in h)
clamped_mono (fin false m e) (inf true) count h = absurd (unfold le in h)
clamped_mono (fin false m e) (inf false) count h = capped (m * up e / down e) (count - 1)
  where
    capped : (x n : ℕ) → min x n ≤ n
    capped x n = omega arith
clamped_mono (fin false m e) (fin true n g) count h = none (m * up e / down e) (count - 1) (ap (λ (x : ℕ). x / down e) (le_minus m e n g h) ∙ div-eq_of_lt (down_pos e))
  where
    none : (x n : ℕ) → x ≡ 0 → min x n ≤ 0
    none x n h = omega arith
clamped_mono (fin false m e) (fin false n g) count h = lesser (m * up e / down e) (n * up g / down g) (count - 1) (div_le (m * up e) (down e) (n * up g) (down g) (down_pos e) (down_pos g) (le_says m e n g h))
  where
    lesser : (x y n : ℕ) → x ≤ y → min x n ≤ min y n
    lesser x y n h = omega arith

-- ---- the floor

-- from zero on: the whole part, with a plus sign
pub floor_plus : (v : Float) (a c : ℕ) → T (fits binary64 v) → 0 < c → HasValue v false a c → HasValue (floor_of v) false (a / c) 1 × Part a c (a / c)
unfolding floor_of
floor_plus nan a c t C h = absurd h
floor_plus (inf s) a c t C h = absurd h
floor_plus (fin true m e) a c t C h = absurd (true≢false h.0)
floor_plus (fin false m e) a c t C h = (subst (λ (n : ℕ). HasValue (counted false (m * up e / down e)) false n 1) (div_same (m * up e) (down e) a c (down_pos e) C h.1) value, part_by a c C)
  where
    fewer : (q : ℕ) → q < 2 ^ 52 → q ≤ 2 ^ 53
    fewer q h = omega arith

    value : HasValue (counted false (m * up e / down e)) false (m * up e / down e) 1
    value =
        exact_whole false m e (m * up e / down e) t
        (λ (l : m * up e < 2 ^ 52 * down e). fewer (m * up e / down e) ((div-lt_iff_lt-mul (down_pos e)).1 l))
        (λ (d : down e ≡ 1). ap (λ (x : ℕ). m * up e / x) d ∙ div-one (m * up e))

-- below zero: the first whole number whose size is not below that of v, with a minus sign
pub record Lowered (v : Float) (a c : ℕ) : Type 0 where
  pub q : ℕ
  pub value : HasValue (floor_of v) true q 1
  pub cover : Cover a c q

pub floor_minus : (v : Float) (a c : ℕ) → T (fits binary64 v) → 0 < c → HasValue v true a c → Lowered v a c
unfolding floor_of
floor_minus nan a c t C h = absurd h
floor_minus (inf s) a c t C h = absurd h
floor_minus (fin false m e) a c t C h = absurd (true≢false (sym h.0))
floor_minus (fin true m e) a c t C h = record {
  q = (m * up e + (down e - 1)) / down e;
  value =
      exact_whole true m e ((m * up e + (down e - 1)) / down e) t
      (λ (l : m * up e < 2 ^ 52 * down e). fewer ((m * up e + (down e - 1)) / down e) (ceil_small (m * up e) (down e) (down_pos e) l))
      (λ (d : down e ≡ 1). ap (λ (x : ℕ). (m * up e + (x - 1)) / x) d ∙ same (m * up e));
  cover = cover_same (m * up e) (down e) a c (down_pos e) C h.1 ((m * up e + (down e - 1)) / down e) (cover_by (m * up e) (down e) (down_pos e));
}
  where
    fewer : (q : ℕ) → q ≤ 2 ^ 52 → q ≤ 2 ^ 53
    fewer q h = omega arith

    same : (n : ℕ) → (n + (1 - 1)) / 1 ≡ n
    same n = omega arith

floor_number : (v : Float) → T (number v) → T (number (floor_of v))
unfolding floor_of
floor_number nan p = p
floor_number (inf s) p = tt
floor_number (fin false m e) p = round_number binary64 false (m * up e / down e) 1 (zero-lt-suc 0)
floor_number (fin true m e) p = round_number binary64 true ((m * up e + (down e - 1)) / down e) 1 (zero-lt-suc 0)

-- the first whole number that is not below m * 2 ^ e
abbrev above : ℕ → ℤ → ℕ
above m e = (m * up e + (down e - 1)) / down e

-- a larger value has no smaller floor
pub floor_mono : (v w : Float) → T (le v w) → T (le (floor_of v) (floor_of w))
unfolding floor_of
floor_mono nan w h = absurd (unfold le in h)
floor_mono (inf true) w h = least_of_all (floor_of w) (floor_number w (le_number (inf true) w h))
floor_mono (inf false) nan h = absurd (unfold le in h)
floor_mono (inf false) (inf t) h = h
floor_mono (inf false) (fin t n g) h = absurd (unfold le in h)
floor_mono (fin s m e) nan h = absurd (unfold le in h)
floor_mono (fin s m e) (inf true) h = absurd (unfold le in h)
floor_mono (fin s m e) (inf false) h = greatest_of_all (floor_of (fin s m e)) (floor_number (fin s m e) tt)
floor_mono (fin false m e) (fin false n g) h =
    round_mono binary64 (m * up e / down e) 1 (n * up g / down g) 1 (zero-lt-suc 0) (zero-lt-suc 0)
    (rw (mul-one, mul-one) (div_le (m * up e) (down e) (n * up g) (down g) (down_pos e) (down_pos g) (le_says m e n g h)))
floor_mono (fin true m e) (fin false n g) h =
    rw (← neg_round binary64 false (above m e) 1)
    (float_le_trans (neg (counted false (above m e))) (fin true 0 (pos 0)) (counted false (n * up g / down g))
    (unfold neg in le_neg (fin false 0 (pos 0)) (counted false (above m e)) (FloatSum.zero_le binary64 (above m e) 1 (zero-lt-suc 0)))
    (float_le_trans (fin true 0 (pos 0)) (fin false 0 (pos 0)) (counted false (n * up g / down g)) (unfold le in tt) (FloatSum.zero_le binary64 (n * up g / down g) 1 (zero-lt-suc 0))))
floor_mono (fin true m e) (fin true n g) h =
    rw (← neg_round binary64 false (above m e) 1, ← neg_round binary64 false (above n g) 1)
    (le_neg (counted false (above n g)) (counted false (above m e))
    (round_mono binary64 (above n g) 1 (above m e) 1 (zero-lt-suc 0) (zero-lt-suc 0)
    (rw (mul-one, mul-one)
    (le_trans
    (cover_mono (n * up g) (down g) (m * up e) (down e) (above n g) (above m e) 1 (down_pos g) (down_pos e)
    (le_trans (le_says n g m e (unfold neg in le_neg (fin true m e) (fin true n g) h)) (le_of_eq (sym (one-mul (m * up e * down g)))))
    (cover_by (n * up g) (down g) (down_pos g)) (cover_by (m * up e) (down e) (down_pos e)))
    (le_of_eq (one-mul (above m e)))))))
floor_mono (fin false m e) (fin true n g) h =
    let a = le_minus m e n g h in
    let b = minus_le m e n g h in
    rw (none (m * up e) (down e) (down_pos e) a, none_above (n * up g) (down g) (down_pos g) b) (unfold round le in tt)
  where
    none : (x d : ℕ) → 0 < d → x ≡ 0 → x / d ≡ 0
    none x d D h = ap (λ (y : ℕ). y / d) h ∙ div-eq_of_lt D

    none_above : (x d : ℕ) → 0 < d → x ≡ 0 → (x + (d - 1)) / d ≡ 0
    none_above x d D h = ap (λ (y : ℕ). (y + (d - 1)) / d) h ∙ div-eq_of_lt (less d D)
      where
        less : (d : ℕ) → 0 < d → 0 + (d - 1) < d
        less d D = omega arith
