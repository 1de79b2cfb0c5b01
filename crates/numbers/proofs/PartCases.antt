-- What `whole_part` and `whole_index` compute: v + 2 ^ 52 is rounded to a whole number, which is 2 ^ 52 more than the whole part of v or than the next. Assumes nothing.
use Rattle.std.proofs.Common.{◌≡◌, ℕ, ◌+◌, ◌-◌, ◌*◌, ◌/◌, ◌%◌, ◌^◌, ◌<◌, ◌≤◌, Bool, true, false, cond, not, T, pos, sym, refl, ap, ◌∙◌, subst, le_trans, le_of_eq, lt_of_lt_of_le, mul-le-mul_right, zero-lt-suc, add-mul, mul-lt-mul_of_pos_right, lt_of_not-le, mul-one, not-le_of_lt, div-mul-le_self, div-one, mul-div_cancel, arith, pow_pos, pow_mono}
use native.Mathlib.Nat.{lt-div-mul-add}
use lib.Ieee.{Float, nan, inf, fin, binary64, round, is_nan, lt, le, add, sub, fits, size, to_bits}
use lib.Ieee.Digits.{size-lt, size-le}
use lib.Ieee.Exact.{HasValue}
use lib.Ieee.Fits.{round-fits}
use lib.Ieee.Order.{round_mono}
use lib.Ieee.Positive.{num, den, positive, den_pos, own_value, positive_of_value, values_of_le, between}
use Rattle.numbers.proofs.Values.{to_bits_value}
use Rattle.numbers.proofs.Tests.{holds, fails, under_whole, not_under_whole}
use Rattle.numbers.proofs.Sums.{sum_at_lem}
use Rattle.numbers.proofs.WholeLaws.{Small, counted, counted_value, counted_less, cut_small, whole_beyond}

-- a sum that is rounded to a whole number n, q + 2 ^ 52 or one more
record Moved (x : Float) (q : ℕ) : Type 0 where
  pub n : ℕ
  pub value : HasValue x false n 1
  pub not_below : 2 ^ 52 + q ≤ n
  pub not_above : n ≤ 2 ^ 52 + q + 1

own_whole : (x : Float) → T (positive x) → den x ≡ 1 → HasValue x false (num x) 1
own_whole x p h = subst (λ (d : ℕ). HasValue x false (num x) d) h (own_value x p)

between_wholes : (x : Float) (q : ℕ) → q < 2 ^ 52 → T (fits binary64 x) → T (le (counted false (2 ^ 52 + q)) x) → T (le x (counted false (2 ^ 52 + q + 1))) → Moved x q
between_wholes x q small t l h =
    let lo = counted_value false (2 ^ 52 + q) (omega arith) in
    let hi = counted_value false (2 ^ 52 + q + 1) (omega arith) in
    let P : T (positive (counted false (2 ^ 52 + q))) = positive_of_value (counted false (2 ^ 52 + q)) (2 ^ 52 + q) 1 lo (first_some q) in
    let Q : T (positive (counted false (2 ^ 52 + q + 1))) = positive_of_value (counted false (2 ^ 52 + q + 1)) (2 ^ 52 + q + 1) 1 hi (second_some q) in
    let p = between (counted false (2 ^ 52 + q)) x (counted false (2 ^ 52 + q + 1)) P Q l h in
    let a : (2 ^ 52 + q) * den x ≤ num x * 1 = values_of_le (counted false (2 ^ 52 + q)) x (2 ^ 52 + q) 1 (num x) (den x) P p lo (own_value x p) l in
    let b : num x * 1 ≤ (2 ^ 52 + q + 1) * den x = values_of_le x (counted false (2 ^ 52 + q + 1)) (num x) (den x) (2 ^ 52 + q + 1) 1 p Q (own_value x p) hi h in
    let d : den x ≡ 1 = whole_beyond x p t (le_trans (mul-le-mul_right (den x) (more q)) (le_trans a (le_of_eq (mul-one (num x))))) in
    record {
      n = num x;
      value = own_whole x p d;
      not_below = first (2 ^ 52 + q) (num x) (subst (λ (z : ℕ). (2 ^ 52 + q) * z ≤ num x * 1) d a);
      not_above = second (2 ^ 52 + q + 1) (num x) (subst (λ (z : ℕ). num x * 1 ≤ (2 ^ 52 + q + 1) * z) d b);
    }
  where
    first_some : (q : ℕ) → 0 < 2 ^ 52 + q
    first_some q = omega arith

    second_some : (q : ℕ) → 0 < 2 ^ 52 + q + 1
    second_some q = omega arith

    more : (q : ℕ) → 2 ^ 52 ≤ 2 ^ 52 + q
    more q = omega arith

    first : (m n : ℕ) → m * 1 ≤ n * 1 → m ≤ n
    first m n h = omega arith

    second : (m n : ℕ) → n * 1 ≤ m * 1 → n ≤ m
    second m n h = omega arith

-- 2 ^ 52 moves v among the whole numbers
moved : (v : Float) → Small v → Moved (add binary64 v (fin false 1 (pos 52))) (num v / den v)
moved v s =
    let a = num v in
    let d = den v in
    let q = a / d in
    let e : add binary64 v (fin false 1 (pos 52)) ≡ round binary64 false (a * 1 + 2 ^ 52 * d) (d * 1) =
    sum_at_lem binary64 false v (fin false 1 (pos 52)) a d (2 ^ 52) 1 (den_pos v) (zero-lt-suc 0) (own_value v s.above_zero) (refl, refl) in
    let D : 0 < d * 1 = rw mul-one (den_pos v) in
    subst (λ (x : Float). Moved x q) (sym e)
    (between_wholes (round binary64 false (a * 1 + 2 ^ 52 * d) (d * 1)) q (cut_small v s)
    (round-fits binary64 false (a * 1 + 2 ^ 52 * d) (d * 1))
    (round_mono binary64 (2 ^ 52 + q) 1 (a * 1 + 2 ^ 52 * d) (d * 1) (zero-lt-suc 0) D (low q d a (add-mul (2 ^ 52) q d) (div-mul-le_self a d)))
    (round_mono binary64 (a * 1 + 2 ^ 52 * d) (d * 1) (2 ^ 52 + q + 1) 1 D (zero-lt-suc 0) (high q d a (add-mul (2 ^ 52) q d) (add-mul (2 ^ 52 + q) 1 d) (lt-div-mul-add (den_pos v)))))
  where
    low : (q d a : ℕ) → (4503599627370496 + q) * d ≡ 4503599627370496 * d + q * d → q * d ≤ a → (4503599627370496 + q) * (d * 1) ≤ (a * 1 + 4503599627370496 * d) * 1
    low q d a e h = rw (mul-one d) (omega arith)

    high : (q d a : ℕ) → (4503599627370496 + q) * d ≡ 4503599627370496 * d + q * d → (4503599627370496 + q + 1) * d ≡ (4503599627370496 + q) * d + 1 * d → a < q * d + d
        → (a * 1 + 4503599627370496 * d) * 1 ≤ (4503599627370496 + q + 1) * (d * 1)
    high q d a e f h = rw (mul-one d) (omega arith)

-- moved back, it is the whole part of v, or one more, and then it is above v
record Near (v near : Float) : Type 0 where
  pub k : ℕ
  pub value : HasValue near false k 1
  pub moved_to : HasValue (add binary64 v (fin false 1 (pos 52))) false (2 ^ 52 + k) 1
  pub above : lt v near ≡ true → k ≡ num v / den v + 1
  pub not_above : lt v near ≡ false → k ≡ num v / den v

near_is : (v near : Float) → Small v → near ≡ sub binary64 (add binary64 v (fin false 1 (pos 52))) (fin false 1 (pos 52)) → Near v near
near_is v near s h =
    let m = moved v s in
    let q = num v / den v in
    let small : q < 2 ^ 52 = cut_small v s in
    let k = m.n - 2 ^ 52 in
    let e : near ≡ counted false k = h ∙ counted_less m.n (2 ^ 52) _ (fin false 1 (pos 52)) (omega arith) m.value (refl, refl) in
    let val : HasValue near false k 1 = subst (λ (x : Float). HasValue x false k 1) (sym e) (counted_value false k (omega arith)) in
    let back : m.n ≡ 2 ^ 52 + k = omega arith in
    let l : q ≤ k = omega arith in
    let g : k ≤ q + 1 = omega arith in
    record {
      k = k;
      value = val;
      moved_to = subst (λ (n : ℕ). HasValue (add binary64 v (fin false 1 (pos 52))) false n 1) back m.value;
      above = λ (t : lt v near ≡ true). next q k (den v) (num v) l g (under_whole v near k s.above_zero val (holds _ t)) (div-mul-le_self (num v) (den v));
      not_above = λ (t : lt v near ≡ false). same q k (den v) (num v) l g (not_under_whole v near k s.above_zero val (fails _ t)) (lt-div-mul-add (den_pos v));
    }
  where
    same : (q k d a : ℕ) → q ≤ k → k ≤ q + 1 → k * d ≤ a → a < q * d + d → k ≡ q
    same q k d a l h x y = let f : k < q + 1 = lt_of_not-le (λ (g : q + 1 ≤ k). far q k d a (add-mul q 1 d) (mul-le-mul_right d g) x y) in omega arith
      where
        far : (q k d a : ℕ) → (q + 1) * d ≡ q * d + 1 * d → (q + 1) * d ≤ k * d → k * d ≤ a → a < q * d + d → ⊥
        far q k d a e g x y = omega arith

    next : (q k d a : ℕ) → q ≤ k → k ≤ q + 1 → a < k * d → q * d ≤ a → k ≡ q + 1
    next q k d a l h x y = let f : q < k = lt_of_not-le (λ (g : k ≤ q). far (k * d) (q * d) a (mul-le-mul_right d g) x y) in omega arith
      where
        far : (k q a : ℕ) → k ≤ q → a < k → q ≤ a → ⊥
        far k q a g x y = omega arith

pub part_of : (v near : Float) → Small v → near ≡ sub binary64 (add binary64 v (fin false 1 (pos 52))) (fin false 1 (pos 52))
    → sub binary64 near (cond (lt v near) (fin false 1 (pos 0)) (fin false 0 (pos 0))) ≡ counted false (num v / den v)
part_of v near s h = let n = near_is v near s h in go (num v / den v) n.k n.value (lt v near) n.above n.not_above
  where
    go : (q k : ℕ) → HasValue near false k 1 → (b : Bool) → (b ≡ true → k ≡ q + 1) → (b ≡ false → k ≡ q)
        → sub binary64 near (cond b (fin false 1 (pos 0)) (fin false 0 (pos 0))) ≡ counted false q
    go q k val true y n =
        let e : k ≡ q + 1 = y refl in
        let i : k - 1 ≡ q = omega arith in
        counted_less k 1 near (fin false 1 (pos 0)) (omega arith) val (refl, refl) ∙ ap (λ (i : ℕ). counted false i) i
    go q k val false y n =
        let e : k ≡ q = n refl in
        let i : k - 0 ≡ q = omega arith in
        counted_less k 0 near (fin false 0 (pos 0)) (omega arith) val (refl, refl) ∙ ap (λ (i : ℕ). counted false i) i

-- ---- the bits of the sum

-- a whole number from 2 ^ 52 on has itself in its lowest bits: 1074 is the exponent of the least value, and 52 digits are kept
whole_bits : (x : Float) (n : ℕ) → 2 ^ 52 ≤ n → n < 2 ^ 53 → HasValue x false n 1 → to_bits binary64 x ≡ 1074 * 2 ^ 52 + n
whole_bits x n l h v =
    let w = n * 2 ^ 1074 in
    let most : size w ≤ 1127 = size-le w 1127 (mul-lt-mul_of_pos_right h (pow_pos 1074)) in
    let least : 1126 < size w = lt_of_not-le (λ (g : size w ≤ 1126). not-le_of_lt (lt_of_lt_of_le (size-lt w) (pow_mono g)) (mul-le-mul_right (2 ^ 1074) l)) in
    to_bits_value binary64 x false n 1 (zero-lt-suc 0) v ∙ rw (div-one w) (shape (size w) (omega arith) n)
  where
    shape : (z : ℕ) → z ≡ 1127 → (n : ℕ) → 0 + (z - 53) * 4503599627370496 + n * 2 ^ 1074 / 2 ^ (z - 53) ≡ 1074 * 4503599627370496 + n
    shape z e n = rw (e, mul-div_cancel n (pow_pos 1074)) refl

number_of : (x : Float) (n : ℕ) → HasValue x false n 1 → T (not (is_nan x))
unfolding is_nan
number_of nan n h = absurd h
number_of (inf s) n h = absurd h
number_of (fin s m e) n h = tt

pub moved_number : (v : Float) → Small v → T (not (is_nan (add binary64 v (fin false 1 (pos 52)))))
moved_number v s = let m = moved v s in number_of _ m.n m.value

-- so 2 ^ 52 more than v has the whole part of v there, or one more
pub index_of : (v near : Float) → Small v → near ≡ sub binary64 (add binary64 v (fin false 1 (pos 52))) (fin false 1 (pos 52)) → num v / den v < 4294967295
    → (lt v near ≡ true → to_bits binary64 (add binary64 v (fin false 1 (pos 52))) % 4294967296 ≡ num v / den v + 1)
    × (lt v near ≡ false → to_bits binary64 (add binary64 v (fin false 1 (pos 52))) % 4294967296 ≡ num v / den v)
index_of v near s h few =
    let n = near_is v near s h in (
      λ (t : lt v near ≡ true). at _ (num v / den v + 1) n.k (omega arith) (n.above t) n.moved_to,
      λ (t : lt v near ≡ false). at _ (num v / den v) n.k (omega arith) (n.not_above t) n.moved_to,
    )
  where
    low : (k : ℕ) → k < 4294967296 → (1074 * 4503599627370496 + (4503599627370496 + k)) % 4294967296 ≡ k
    low k l = omega arith

    at : (x : Float) (j k : ℕ) → j < 4294967296 → k ≡ j → HasValue x false (4503599627370496 + k) 1 → to_bits binary64 x % 4294967296 ≡ j
    at x j k l e h = ap (λ (b : ℕ). b % 4294967296) (whole_bits x (4503599627370496 + k) (omega arith) (omega arith) h) ∙ low k (omega arith) ∙ e
