-- A whole number beside a fraction: the whole part of a / c, the first whole number that is not below it, and the one nearest to it.
-- Each is said by two inequalities, which hold for every way of writing the fraction. Assumes nothing.
use Rattle.std.proofs.Common.{◌≡◌, ℕ, ◌+◌, ◌-◌, ◌*◌, ◌/◌, ◌<◌, ◌≤◌, sym, ap, ◌∙◌, le_trans, le_of_eq, lt_of_lt_of_le, lt_of_le_of_lt, mul-le-mul_right, zero-lt-suc, mul_assoc, mul_comm, div-lt_iff_lt-mul, add-mul, lt_of_mul-lt-mul_right, mul-le-mul_left, mul-lt-mul_of_pos_right, mul-pos, one-mul, mul_right_comm, div-mul-le_self, le_of_mul-le-mul_right, arith}
use native.Mathlib.Nat.{lt-div-mul-add}

-- q is the whole part of a / c: q ≤ a / c < q + 1
pub record Part (a c q : ℕ) : Type 0 where
  pub not_above : q * c ≤ a
  pub next_above : a < (q + 1) * c

-- q is the first whole number that is not below a / c: q - 1 < a / c ≤ q
pub record Cover (a c q : ℕ) : Type 0 where
  pub not_below : a ≤ q * c
  pub last_below : q * c < a + c

-- n is at most one half from a / c, and above it where the half is exact: a / c - 1 / 2 < n ≤ a / c + 1 / 2
pub record Rounded (a c n : ℕ) : Type 0 where
  pub not_above : n * (2 * c) ≤ 2 * a + c
  pub next_above : 2 * a + c < (n + 1) * (2 * c)

-- ---- by division

pub part_by : (a c : ℕ) → 0 < c → Part a c (a / c)
part_by a c C = record { not_above = div-mul-le_self a c; next_above = (div-lt_iff_lt-mul C).0 (next (a / c)) }
  where
    next : (n : ℕ) → n < n + 1
    next n = omega arith

pub cover_by : (a c : ℕ) → 0 < c → Cover a c ((a + (c - 1)) / c)
cover_by a c C =
    let q = (a + (c - 1)) / c in
    record { not_below = low a c (q * c) C (lt-div-mul-add C); last_below = high a c (q * c) C (div-mul-le_self (a + (c - 1)) c) }
  where
    low : (a c x : ℕ) → 0 < c → a + (c - 1) < x + c → a ≤ x
    low a c x C h = omega arith

    high : (a c x : ℕ) → 0 < c → x ≤ a + (c - 1) → x < a + c
    high a c x C h = omega arith

pub rounded_by : (a c : ℕ) → 0 < c → Rounded a c ((2 * a + c) / (2 * c))
rounded_by a c C = let p = part_by (2 * a + c) (2 * c) (mul-pos (zero-lt-suc 1) C) in record { not_above = p.not_above; next_above = p.next_above }

-- ---- for another way of writing the fraction: a / c = b / d

module _ (a c b d : ℕ) (C : 0 < c) (D : 0 < d) (same : a * d ≡ b * c) where
  le_under : (x : ℕ) → x * c ≤ a → x * d ≤ b
  le_under x h = le_of_mul-le-mul_right (le_trans (le_of_eq (mul_right_comm x d c)) (le_trans (mul-le-mul_right d h) (le_of_eq same))) C

  lt_over : (x : ℕ) → a < x * c → b < x * d
  lt_over x h = lt_of_mul-lt-mul_right c (lt_of_le_of_lt (le_of_eq (sym same)) (lt_of_lt_of_le (mul-lt-mul_of_pos_right h D) (le_of_eq (mul_right_comm x c d))))

  le_over : (x : ℕ) → a ≤ x * c → b ≤ x * d
  le_over x h = le_of_mul-le-mul_right (le_trans (le_of_eq (sym same)) (le_trans (mul-le-mul_right d h) (le_of_eq (mul_right_comm x c d)))) C

  lt_more : (x : ℕ) → x * c < a + c → x * d < b + d
  lt_more x h =
      lt_of_mul-lt-mul_right c
      (lt_of_le_of_lt (le_of_eq (mul_right_comm x d c))
      (lt_of_lt_of_le (mul-lt-mul_of_pos_right h D)
      (le_of_eq (add-mul a c d ∙ ap (λ (z : ℕ). z + c * d) same ∙ ap (λ (z : ℕ). b * c + z) (mul_comm c d) ∙ sym (add-mul b d c)))))

  pub part_same : (q : ℕ) → Part a c q → Part b d q
  part_same q p = record { not_above = le_under q p.not_above; next_above = lt_over (q + 1) p.next_above }

  pub cover_same : (q : ℕ) → Cover a c q → Cover b d q
  cover_same q p = record { not_below = le_over q p.not_below; last_below = lt_more q p.last_below }

-- ---- there is one such number

pub part_unique : (a c q r : ℕ) → Part a c q → Part a c r → q ≡ r
part_unique a c q r p s = between (below q r p s) (below r q s p)
  where
    below : (q r : ℕ) → Part a c q → Part a c r → q < r + 1
    below q r p s = lt_of_mul-lt-mul_right c (lt_of_le_of_lt p.not_above s.next_above)

    between : {q r : ℕ} → q < r + 1 → r < q + 1 → q ≡ r
    between h k = omega arith

pub cover_unique : (a c q r : ℕ) → Cover a c q → Cover a c r → q ≡ r
cover_unique a c q r p s = between (below q r p s) (below r q s p)
  where
    below : (q r : ℕ) → Cover a c q → Cover a c r → q < r + 1
    below q r p s = lt_of_mul-lt-mul_right c (lt_of_lt_of_le p.last_below (le_trans (plus s.not_below) (le_of_eq (sym (add-mul r 1 c)))))
      where
        plus : {x : ℕ} → a ≤ x → a + c ≤ x + 1 * c
        plus h = omega arith

    between : {q r : ℕ} → q < r + 1 → r < q + 1 → q ≡ r
    between h k = omega arith

-- ---- a larger fraction has no smaller one: a / c ≤ b / d

pub part_mono : (a c b d q r : ℕ) → 0 < c → 0 < d → a * d ≤ b * c → Part a c q → Part b d r → q ≤ r
part_mono a c b d q r C D h p s = last (lt_of_mul-lt-mul_right (c * d) (lt_of_le_of_lt low high))
  where
    low : q * (c * d) ≤ b * c
    low = le_trans (le_of_eq (sym (mul_assoc q c d))) (le_trans (mul-le-mul_right d p.not_above) h)

    high : b * c < (r + 1) * (c * d)
    high = lt_of_lt_of_le (mul-lt-mul_of_pos_right s.next_above C) (le_of_eq (mul_assoc (r + 1) d c ∙ ap (λ (z : ℕ). (r + 1) * z) (mul_comm d c)))

    last : {q r : ℕ} → q < r + 1 → q ≤ r
    last h = omega arith

-- a / c is at most k times b / d
pub cover_mono : (a c b d q r k : ℕ) → 0 < c → 0 < d → a * d ≤ k * (b * c) → Cover a c q → Cover b d r → q ≤ k * r
cover_mono a c b d q r k C D h p s = last (lt_of_mul-lt-mul_right (c * d) (lt_of_lt_of_le low high))
  where
    low : q * (c * d) < (a + c) * d
    low = lt_of_le_of_lt (le_of_eq (sym (mul_assoc q c d))) (mul-lt-mul_of_pos_right p.last_below D)

    high : (a + c) * d ≤ (k * r + 1) * (c * d)
    high =
        le_trans (le_of_eq (add-mul a c d))
        (le_trans (add_right (c * d) (le_trans h (le_trans (mul-le-mul_left k (mul-le-mul_right c s.not_below)) (le_of_eq (ap (λ (z : ℕ). k * z) (mul_assoc r d c ∙ ap (λ (z : ℕ). r * z) (mul_comm d c)) ∙ sym (mul_assoc k r (c * d)))))))
        (le_of_eq (ap (λ (z : ℕ). k * r * (c * d) + z) (sym (one-mul (c * d))) ∙ sym (add-mul (k * r) 1 (c * d)))))
      where
        add_right : {x y : ℕ} (z : ℕ) → x ≤ y → x + z ≤ y + z
        add_right z h = omega arith

    last : {q r : ℕ} → q < r + 1 → q ≤ r
    last h = omega arith

pub div_le : (a c b d : ℕ) → 0 < c → 0 < d → a * d ≤ b * c → a / c ≤ b / d
div_le a c b d C D h = part_mono a c b d (a / c) (b / d) C D h (part_by a c C) (part_by b d D)
