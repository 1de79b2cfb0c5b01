-- The bits of a number: of a power of two, of two numbers taken together, and that numbers with a bit in common have it at one place. Assumes nothing.
use mathlib.Core.Path.{◌≡◌, refl, sym, ap, ◌∙◌}
use mathlib.Core.Logic.{◌⊎◌, inl, inr}
use Prim.Native.Nat.{ℕ, zero, suc, ◌*◌, ◌/◌, ◌%◌, ◌^◌, ◌<◌, min, max}
use native.Mathlib.Nat.{zero-min, min-zero, zero-max, max-zero, one-mul, pow-suc, mod-lt, zero-lt-suc}
use native.Mathlib.Decide.{ℕ_discrete}
use native.Mathlib.Omega.{arith}
use lib.Dec.{lit<}
use lib.Arith.{bin_ind, digits_div, digits_mod}
use lib.Pow.{shl_exact}
use lib.Bits.{bit_and, bit_or, and_step, or_step, and_zero_l}

-- the bit of a number at a place
pub bit_at : ℕ → ℕ → ℕ
bit_at zero m = m % 2
bit_at (suc k) m = bit_at k (m / 2)

-- ---- one digit

digit : (x : ℕ) → (x % 2 ≡ 0) ⊎ (x % 2 ≡ 1)
digit x = go (ℕ_discrete (x % 2) 0)
  where
    go : Dec (x % 2 ≡ 0) → (x % 2 ≡ 0) ⊎ (x % 2 ≡ 1)
    go (yes e) = inl e
    go (no d) = inr (omega (arith, d))

both_odd : (x y : ℕ) → (min (x % 2) (y % 2) ≡ 0 → ⊥) → (x % 2 ≡ 1) × (y % 2 ≡ 1)
both_odd x y n = go (digit x) (digit y)
  where
    go : (x % 2 ≡ 0) ⊎ (x % 2 ≡ 1) → (y % 2 ≡ 0) ⊎ (y % 2 ≡ 1) → (x % 2 ≡ 1) × (y % 2 ≡ 1)
    go (inl e) q = absurd (n (rw e (zero-min (y % 2))))
    go (inr e) (inl q) = absurd (n (rw q (min-zero (x % 2))))
    go (inr e) (inr q) = (e, q)

one_odd : (x y : ℕ) → max (x % 2) (y % 2) ≡ 1 → (x % 2 ≡ 1) ⊎ (y % 2 ≡ 1)
one_odd x y h = go (digit x)
  where
    go : (x % 2 ≡ 0) ⊎ (x % 2 ≡ 1) → (x % 2 ≡ 1) ⊎ (y % 2 ≡ 1)
    go (inl e) = inr (sym (zero-max (y % 2)) ∙ (rw e at h))
    go (inr e) = inl e

max_digit : (x y : ℕ) → max (x % 2) (y % 2) < 2
max_digit x y = go (digit x) (digit y)
  where
    go : (x % 2 ≡ 0) ⊎ (x % 2 ≡ 1) → (y % 2 ≡ 0) ⊎ (y % 2 ≡ 1) → max (x % 2) (y % 2) < 2
    go (inl e) q = rw (e, zero-max) (mod-lt y (zero-lt-suc 1))
    go (inr e) (inl q) = rw (q, max-zero) (mod-lt x (zero-lt-suc 1))
    go (inr e) (inr q) = rw (e, q) (lit< tt)

min_digit : (x y : ℕ) → min (x % 2) (y % 2) < 2
min_digit x y = go (digit x) (digit y)
  where
    go : (x % 2 ≡ 0) ⊎ (x % 2 ≡ 1) → (y % 2 ≡ 0) ⊎ (y % 2 ≡ 1) → min (x % 2) (y % 2) < 2
    go (inl e) q = rw (e, zero-min) (lit< tt)
    go (inr e) (inl q) = rw (q, min-zero) (lit< tt)
    go (inr e) (inr q) = rw (e, q) (lit< tt)

-- ---- a bit of both

pub record Common (a b : ℕ) : Type 0 where
  pub k : ℕ
  pub left : bit_at k a ≡ 1
  pub right : bit_at k b ≡ 1

pub common_bit : (a b : ℕ) → (bit_and a b ≡ 0 → ⊥) → Common a b
unfolding bit_at
common_bit = bin_ind (λ a. (b : ℕ) → (bit_and a b ≡ 0 → ⊥) → Common a b) (λ b d. absurd (d (and_zero_l b))) step
  where
    step : (a : ℕ) → ((b : ℕ) → (bit_and (a / 2) b ≡ 0 → ⊥) → Common (a / 2) b) → (b : ℕ) → (bit_and a b ≡ 0 → ⊥) → Common a b
    step a ih b d = go (ℕ_discrete (min (a % 2) (b % 2)) 0)
      where
        go : Dec (min (a % 2) (b % 2) ≡ 0) → Common a b
        go (yes e) = let r = ih (b / 2) (λ z. d (and_step a b ∙ rw (z, e))) in record { k = suc r.k; left = r.left; right = r.right }
        go (no n) = let r = both_odd a b n in record { k = zero; left = r.0; right = r.1 }

-- two numbers that have more than their lowest bits in common have a higher one
pub record High (a b : ℕ) : Type 0 where
  pub k : ℕ
  pub left : bit_at (suc k) a ≡ 1
  pub right : bit_at (suc k) b ≡ 1

pub common_high : (a b : ℕ) → 1 < bit_and a b → High a b
unfolding bit_at
common_high a b l =
    let r = common_bit (a / 2) (b / 2) (λ z. absurd (omega (arith, l, z, and_step a b, min_digit a b))) in
    record { k = r.k; left = r.left; right = r.right }

-- and numbers with no bit in common have none at one place
pub common_none : (k a b : ℕ) → bit_at k a ≡ 1 → bit_at k b ≡ 1 → bit_and a b ≡ 0 → ⊥
unfolding bit_at
common_none zero a b x y e = let q : min (a % 2) (b % 2) ≡ 1 = rw (x, y) in omega (arith, e, and_step a b, q)
common_none (suc k) a b x y e = common_none k (a / 2) (b / 2) x y (omega (arith, e, and_step a b))

-- ---- a bit of one or the other

or_half : (a b : ℕ) → bit_or a b / 2 ≡ bit_or (a / 2) (b / 2)
or_half a b = ap (λ (x : ℕ). x / 2) (or_step a b) ∙ digits_div (bit_or (a / 2) (b / 2)) (max_digit a b)

or_digit : (a b : ℕ) → bit_or a b % 2 ≡ max (a % 2) (b % 2)
or_digit a b = ap (λ (x : ℕ). x % 2) (or_step a b) ∙ digits_mod (bit_or (a / 2) (b / 2)) (max_digit a b)

pub or_bit : (k a b : ℕ) → bit_at k (bit_or a b) ≡ 1 → (bit_at k a ≡ 1) ⊎ (bit_at k b ≡ 1)
unfolding bit_at
or_bit zero a b h = one_odd a b (sym (or_digit a b) ∙ h)
or_bit (suc k) a b h = or_bit k (a / 2) (b / 2) (rw (or_half a b) at h)

max_left : (x y : ℕ) → x % 2 ≡ 1 → max (x % 2) (y % 2) ≡ 1
max_left x y e = go (digit y)
  where
    go : (y % 2 ≡ 0) ⊎ (y % 2 ≡ 1) → max (x % 2) (y % 2) ≡ 1
    go (inl q) = rw (e, q)
    go (inr q) = rw (e, q)

max_right : (x y : ℕ) → y % 2 ≡ 1 → max (x % 2) (y % 2) ≡ 1
max_right x y e = go (digit x)
  where
    go : (x % 2 ≡ 0) ⊎ (x % 2 ≡ 1) → max (x % 2) (y % 2) ≡ 1
    go (inl q) = rw (e, q)
    go (inr q) = rw (e, q)

pub or_left : (k a b : ℕ) → bit_at k a ≡ 1 → bit_at k (bit_or a b) ≡ 1
unfolding bit_at
or_left zero a b h = or_digit a b ∙ max_left a b h
or_left (suc k) a b h = rw (or_half a b) (or_left k (a / 2) (b / 2) h)

pub or_right : (k a b : ℕ) → bit_at k b ≡ 1 → bit_at k (bit_or a b) ≡ 1
unfolding bit_at
or_right zero a b h = or_digit a b ∙ max_right a b h
or_right (suc k) a b h = rw (or_half a b) (or_right k (a / 2) (b / 2) h)

-- ---- of nothing, and of a power of two

pub zero_bit : (k : ℕ) → bit_at k 0 ≡ 1 → ⊥
unfolding bit_at
zero_bit zero h = omega (arith, h)
zero_bit (suc k) h = zero_bit k h

even : (x : ℕ) → (x * 2) % 2 ≡ 1 → ⊥
even x h = omega (arith, h)

half : (x : ℕ) → (x * 2) / 2 ≡ x
half x = omega arith

pub power_bit : (k j : ℕ) → bit_at k (2 ^ j) ≡ 1 → k ≡ j
unfolding bit_at
power_bit zero zero h = refl
power_bit zero (suc j) h = absurd (even (2 ^ j) (rw (pow-suc 2 j) at h))
power_bit (suc k) zero h = absurd (zero_bit k h)
power_bit (suc k) (suc j) h = ap suc (power_bit k j (rw (pow-suc 2 j, half) at h))

pub bit_power : (k : ℕ) → bit_at k (2 ^ k) ≡ 1
unfolding bit_at
bit_power zero = refl
bit_power (suc k) = rw (pow-suc 2 k, half) (bit_power k)

-- one, shifted at 32 bits
pub one_shifted : (k : ℕ) → k < 32 → (1 * 2 ^ k) % 2 ^ 32 ≡ 2 ^ k
one_shifted k h = shl_exact {a = 1} 1 k 32 (lit< tt) (omega arith) ∙ one-mul (2 ^ k)
