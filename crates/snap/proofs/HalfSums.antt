-- The floor of a value and one half, once their sum is rounded: it is the value rounded half away, but for the largest float below one half. A value of
-- the format that lies from the sum on and below the next whole number keeps the rounded sum below that number (`Under`). There is one for a whole
-- number, for a fraction in units of 2 ^ -53 or more, and for a smaller fraction other than that one. Assumes nothing.
use mathlib.Core.Path.{◌≡◌, refl, sym, ap, ◌∙◌, subst}
use Prim.Native.Nat.{ℕ, zero, suc, ◌+◌, ◌-◌, ◌*◌, ◌/◌, ◌^◌, ◌≤◌, ◌<◌}
use native.Mathlib.Nat.{le_of_eq, lt_of_lt_of_le, lt_of_not-le, mul-one, mul_assoc, mul_right_comm, mul-pos, mul-le-mul_right, mul-lt-mul_of_pos_right, lt_of_mul-lt-mul_right, le_of_mul-le-mul_right, zero-lt-suc, div-eq_of_lt-le, div-mul-le_self, lt-div-mul-add}
use native.Mathlib.Decide.{dec_le}
use native.Mathlib.Omega.{arith}
use mathlib.Core.Bool.{true, false}
use lib.Dec.{T, lit≤}
use lib.Pow.{pow-add, pow_pos, pow_mono, shl_lt}
use lib.Ieee.{Float, nan, inf, fin, Format, binary64, prec, emax, low, round, le}
use lib.Ieee.Digits.{back}
use lib.Ieee.Exact.{HasValue, round_exact}
use lib.Ieee.Fits.{reach}
use lib.Ieee.Order.{round_mono}
use lib.Ieee.Positive.{num, den, positive, den_pos, own_value, positive_of_value, values_of_le, between}
use Rattle.numbers.specs.Floor.{floor_of}
use Rattle.numbers.proofs.WholeLaws.{counted, counted_value}

-- ---- a value of the format above the sum and below the next whole number

-- p / 2 ^ k is one: at least x / y, and less than n + 1
pub record Under (x y n : ℕ) : Type 0 where
  pub p : ℕ
  pub k : ℕ
  pub reaches : x * 2 ^ k ≤ p * y
  pub below : p < (n + 1) * 2 ^ k
  pub few : p < 2 ^ 53
  pub deep : k ≤ 1074

exactly : (f : Format) (p k : ℕ) → p < 2 ^ prec f → k ≤ low f → HasValue (round f false p (2 ^ k)) false p (2 ^ k)
exactly f p k few deep =
    round_exact f false p (2 ^ k) p (low f - k) (pow_pos k) few
    (lt_of_lt_of_le (shl_lt (prec f) (low f - k) few) (pow_mono (fewer (prec f) (low f) k (suc (emax f)) (reach f))))
    (ap (λ (z : ℕ). p * z) (ap (λ (z : ℕ). 2 ^ z) (sym (back (low f) k deep)) ∙ pow-add 2 (low f - k) k) ∙ sym (mul_assoc p (2 ^ (low f - k)) (2 ^ k)))
  where
    fewer : (w l k e : ℕ) → w ≤ e → w + (l - k) ≤ l + e
    fewer w l k e h = omega arith

-- ---- the floor of what is rounded

floor_is : (x : Float) → T (positive x) → floor_of x ≡ counted false (num x / den x)
unfolding floor_of
floor_is nan p = absurd p
floor_is (inf s) p = absurd p
floor_is (fin true m e) p = absurd p
floor_is (fin false m e) p = refl

no_less : (n : ℕ) (r : Float) → n ≤ 2 ^ 53 → T (positive r) → T (le (counted false n) r) → n * den r ≤ num r
no_less zero r few p h = omega arith
no_less (suc n) r few p h =
    subst (λ (z : ℕ). suc n * den r ≤ z) (mul-one (num r))
    (values_of_le (counted false (suc n)) r (suc n) 1 (num r) (den r) (positive_of_value (counted false (suc n)) (suc n) 1 (counted_value false (suc n) few) (zero-lt-suc n)) p (counted_value false (suc n) few) (own_value r p) h)

-- x / y is one half at least, and n its whole part
pub floor_rounded : (x y n : ℕ) → 0 < y → y ≤ 2 * x → n * y ≤ x → Under x y n → floor_of (round binary64 false x y) ≡ counted false n
floor_rounded x y n Y half low u =
    let r = round binary64 false x y in
    let w = round binary64 false u.p (2 ^ u.k) in
    let W : HasValue w false u.p (2 ^ u.k) = exactly binary64 u.p u.k u.few u.deep in
    let H : HasValue (round binary64 false 1 2) false 1 2 = exactly binary64 1 1 (lit≤ tt) (lit≤ tt) in
    let w+ : T (positive w) = positive_of_value w u.p (2 ^ u.k) W (some x y u.p (2 ^ u.k) Y half (pow_pos u.k) u.reaches) in
    let over : T (le r w) = round_mono binary64 x y u.p (2 ^ u.k) Y (pow_pos u.k) u.reaches in
    let r+ : T (positive r) =
    between (round binary64 false 1 2) r w (positive_of_value (round binary64 false 1 2) 1 2 H (zero-lt-suc 0)) w+ (round_mono binary64 1 2 x y (zero-lt-suc 1) Y (twice x y half)) over in
    let most : num r * 2 ^ u.k ≤ u.p * den r = values_of_le r w (num r) (den r) u.p (2 ^ u.k) r+ w+ (own_value r r+) W over in
    let least : n * den r ≤ num r = no_less n r (fewer n u.p (whole x y n u.p (2 ^ u.k) Y (pow_pos u.k) low u.reaches) u.few) r+ (round_mono binary64 n 1 x y (zero-lt-suc 0) Y (rw mul-one low)) in
    floor_is r r+ ∙ ap (λ (z : ℕ). counted false z) (div-eq_of_lt-le (den r) least (next (num r) (den r) u.p (2 ^ u.k) n (den_pos r) most u.below))
  where
    twice : (x y : ℕ) → y ≤ 2 * x → 1 * y ≤ x * 2
    twice x y h = omega arith

    some : (x y p q : ℕ) → 0 < y → y ≤ 2 * x → 0 < q → x * q ≤ p * y → 0 < p
    some x y zero q Y h Q l = absurd (let k : 0 < x * q = mul-pos (omega arith) Q in omega arith)
    some x y (suc p) q Y h Q l = zero-lt-suc p

    -- n is at most p
    whole : (x y n p q : ℕ) → 0 < y → 0 < q → n * y ≤ x → x * q ≤ p * y → n ≤ p
    whole x y n p q Y Q h l =
        let a : n * y * q ≤ x * q = mul-le-mul_right q h in
        let b : n * 1 * y ≤ n * q * y = mul-le-mul_right y (let c : 1 * n ≤ q * n = mul-le-mul_right n Q in omega arith) in
        le_of_mul-le-mul_right (omega arith) Y

    fewer : (n p : ℕ) → n ≤ p → p < 9007199254740992 → n ≤ 9007199254740992
    fewer n p h l = omega arith

    next : (a d p q n : ℕ) → 0 < d → a * q ≤ p * d → p < (n + 1) * q → a < (n + 1) * d
    next a d p q n D h l = lt_of_mul-lt-mul_right q (lt_of_lt_of_le (below a d p q n D h l) (le_of_eq (mul_right_comm (n + 1) q d)))
      where
        below : (a d p q n : ℕ) → 0 < d → a * q ≤ p * d → p < (n + 1) * q → a * q < (n + 1) * q * d
        below a d p q n D h l = let k : p * d < (n + 1) * q * d = mul-lt-mul_of_pos_right l D in omega arith

-- ---- a whole number: the sum itself

pub under_whole : (m : ℕ) → m < 2 ^ 52 → Under (2 * m + 1) (2 * 1) m
under_whole m h = record { p = 2 * m + 1; k = 1; reaches = omega arith; below = omega arith; few = omega arith; deep = lit≤ tt }

-- ---- a fraction m / 2t, where t is 2 ^ i, and n is the whole part of its sum with one half

record Cut (m t n : ℕ) : Type 0 where
  pub low : 2 * (n * t) ≤ m + t
  pub high : m + t < 2 * (n * t) + 2 * t

cut : (m t : ℕ) → 0 < t → Cut m t ((2 * m + 2 * t) / (2 * (2 * t)))
cut m t h =
    let q = (2 * m + 2 * t) / (2 * (2 * t)) in
    let a : q * (2 * (2 * t)) ≤ 2 * m + 2 * t = div-mul-le_self (2 * m + 2 * t) (2 * (2 * t)) in
    let b : 2 * m + 2 * t < q * (2 * (2 * t)) + 2 * (2 * t) = lt-div-mul-add (omega arith) in
    let c : q * (2 * (2 * t)) ≡ 4 * (q * t) = times q t in
    record { low = omega arith; high = omega arith }
  where
    times : (q t : ℕ) → q * (2 * (2 * t)) ≡ 4 * (q * t)
    times q t = omega arith

-- as `Under` is asked for: the sum is (2m + 2t) / 4t
abbrev Fraction : ℕ → ℕ → ℕ → Type 0
Fraction m t n = Under (2 * m + 2 * t) (2 * (2 * t)) n

-- t is 2 ^ 52 at most, so t * r is 2 ^ 52 for some r. Where m + t has at most 53 digits the sum is itself a value of the format (`short`). Else n is r at
-- least, so that m, below 2 ^ 53, is below 2 n t: the sum lies one half or more below n + 1, and n + 1 less 1 / t, a value of the format, is no less (`long`)
module _ (m i n r : ℕ) (c : Cut m (2 ^ i) n) (small : m < 9007199254740992) (r+ : 0 < r) (whole : 2 ^ i * r ≡ 4503599627370496) (deep : i ≤ 52) where
  short : m + 2 ^ i < 9007199254740992 → Fraction m (2 ^ i) n
  short h = record {
    p = m + 2 ^ i;
    k = i + 1;
    reaches = rw (pow-add 2 i 1) (reaches m (2 ^ i));
    below = rw (pow-add 2 i 1) (below m (2 ^ i) n c);
    few = h;
    deep = omega arith;
  }
    where
      reaches : (m t : ℕ) → (2 * m + 2 * t) * (t * 2 ^ 1) ≤ (m + t) * (2 * (2 * t))
      reaches m t = omega arith

      below : (m t n : ℕ) → Cut m t n → m + t < (n + 1) * (t * 2 ^ 1)
      below m t n c = let h = c.high in omega arith

  long : 9007199254740992 ≤ m + 2 ^ i → Fraction m (2 ^ i) n
  long h = record {
    p = (n + 1) * 2 ^ i - 1;
    k = i;
    reaches = reaches m (2 ^ i) n (not_last m (2 ^ i) n r c small (pow_pos i) h whole);
    below = below ((n + 1) * 2 ^ i) (mul-pos (some n) (pow_pos i));
    few = few m (2 ^ i) n r c small (pow_pos i) r+ whole;
    deep = omega arith;
  }
    where
      some : (n : ℕ) → 0 < n + 1
      some n = omega arith

      below : (x : ℕ) → 0 < x → x - 1 < x
      below x h = omega arith

      not_last : (m t n r : ℕ) → Cut m t n → m < 9007199254740992 → 0 < t → 9007199254740992 ≤ m + t → t * r ≡ 4503599627370496 → m + t + 2 ≤ 2 * (n * t) + 2 * t
      not_last m t n r c l t+ h w = go (dec_le (n + 1) r)
        where
          go : Dec (n + 1 ≤ r) → m + t + 2 ≤ 2 * (n * t) + 2 * t
          go (yes k) = let a : (n + 1) * t ≤ r * t = mul-le-mul_right t k in let b = c.high in omega arith
          go (no k) = let a : r * t ≤ n * t = mul-le-mul_right t (let e = lt_of_not-le k in omega arith) in let b = c.high in omega arith

      reaches : (m t n : ℕ) → m + t + 2 ≤ 2 * (n * t) + 2 * t → (2 * m + 2 * t) * t ≤ ((n + 1) * t - 1) * (2 * (2 * t))
      reaches m t n h =
          let e : (2 * m + 2 * t) ≤ ((n + 1) * t - 1) * 4 = omega arith in
          let k : (2 * m + 2 * t) * t ≤ ((n + 1) * t - 1) * 4 * t = mul-le-mul_right t e in
          omega arith

      few : (m t n r : ℕ) → Cut m t n → m < 9007199254740992 → 0 < t → 0 < r → t * r ≡ 4503599627370496 → (n + 1) * t - 1 < 9007199254740992
      few m t n r c l t+ R w = go (dec_le (r + 1) n)
        where
          go : Dec (r + 1 ≤ n) → (n + 1) * t - 1 < 9007199254740992
          go (yes k) = absurd (let a : (r + 1) * t ≤ n * t = mul-le-mul_right t k in let b = c.low in omega arith)
          go (no k) =
              let a : n * t ≤ r * t = mul-le-mul_right t (let e = lt_of_not-le k in omega arith) in
              let b : 1 * t ≤ r * t = mul-le-mul_right t R in
              omega arith

-- t is 2 ^ 53 at least, so n is 0: 1 less 2 ^ -53 is not below the sum, unless m / 2t is (2 ^ 53 - 1) / 2 ^ 54, the largest value below one half
far : (m t n : ℕ) → Cut m t n → m < 9007199254740992 → 9007199254740992 ≤ t → m * 9007199254740992 ≤ 9007199254740990 * t → Fraction m t n
far m t n c small large h = record {
  p = 9007199254740991;
  k = 53;
  reaches = omega arith;
  below = omega arith;
  few = lit≤ tt;
  deep = lit≤ tt;
}

pub under_fraction : (m i : ℕ) → m < 2 ^ 53 → (i ≡ 53 → m ≡ 9007199254740991 → ⊥) → Under (2 * m + 2 ^ suc i) (2 * 2 ^ suc i) ((2 * m + 2 ^ suc i) / (2 * 2 ^ suc i))
under_fraction m i small other = subst (λ (d : ℕ). Under (2 * m + d) (2 * d) ((2 * m + d) / (2 * d))) (twice i) (go (dec_le i 52))
  where
    n : ℕ
    n = (2 * m + 2 * 2 ^ i) / (2 * (2 * 2 ^ i))

    twice : (i : ℕ) → 2 * 2 ^ i ≡ 2 ^ suc i
    twice i = omega arith

    c : Cut m (2 ^ i) n
    c = cut m (2 ^ i) (pow_pos i)

    clash : (m i : ℕ) → (i ≤ 52 → ⊥) → i ≤ 53 → i ≡ 53
    clash m i a b = let k = lt_of_not-le a in omega arith

    all : (m i : ℕ) → m < 9007199254740992 → (i ≡ 53 → m ≡ 9007199254740991 → ⊥) → i ≡ 53 → m ≤ 9007199254740990
    all m i l h e = go (dec_le m 9007199254740990)
      where
        go : Dec (m ≤ 9007199254740990) → m ≤ 9007199254740990
        go (yes k) = k
        go (no k) = absurd (h e (let g = lt_of_not-le k in omega arith))

    same : (m t : ℕ) → t ≡ 9007199254740992 → m ≤ 9007199254740990 → m * 9007199254740992 ≤ 9007199254740990 * t
    same m t e h = omega arith

    more : (m t : ℕ) → 18014398509481984 ≤ t → m < 9007199254740992 → m * 9007199254740992 ≤ 9007199254740990 * t
    more m t e h = omega arith

    over : (i : ℕ) → (i ≤ 52 → ⊥) → 53 ≤ i
    over i h = lt_of_not-le h

    next : (i : ℕ) → (i ≤ 53 → ⊥) → 54 ≤ i
    next i h = lt_of_not-le h

    go : Dec (i ≤ 52) → Fraction m (2 ^ i) n
    go (yes h) = parts (dec_le 9007199254740992 (m + 2 ^ i))
      where
        whole : 2 ^ i * 2 ^ (52 - i) ≡ 4503599627370496
        whole = let e : i + (52 - i) ≡ 52 = omega arith in sym (pow-add 2 i (52 - i)) ∙ ap (λ (z : ℕ). 2 ^ z) e

        parts : Dec (9007199254740992 ≤ m + 2 ^ i) → Fraction m (2 ^ i) n
        parts (yes k) = long m i n (2 ^ (52 - i)) c small (pow_pos (52 - i)) whole h k
        parts (no k) = short m i n (2 ^ (52 - i)) c small (pow_pos (52 - i)) whole h (lt_of_not-le k)
    go (no h) = far m (2 ^ i) n c small (pow_mono {i = 53} {j = i} (over i h)) (parts (dec_le i 53))
      where
        parts : Dec (i ≤ 53) → m * 9007199254740992 ≤ 9007199254740990 * 2 ^ i
        parts (yes k) = let e = clash m i h k in same m (2 ^ i) (ap (λ (z : ℕ). 2 ^ z) e) (all m i small other e)
        parts (no k) = more m (2 ^ i) (pow_mono {i = 54} {j = i} (next i k)) small
