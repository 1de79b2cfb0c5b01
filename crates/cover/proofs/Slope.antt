-- How far a line has come sideways, by a slope that is cut and a product that is cut: at most what is exact, and less than 2 short of it. A height y is
-- given by a weight: y / dy is compared with w / q. Assumes nothing.
use mathlib.Core.Path.{◌≡◌}
use Prim.Native.Nat.{ℕ, ◌+◌, ◌*◌, ◌/◌, ◌%◌, ◌≤◌, ◌<◌}
use native.Mathlib.Nat.{mul-le-mul_right, mul-le-mul_left, le_of_mul-le-mul_right, mod-lt, div-add-mod', div-mul-le_self}
use native.Mathlib.Omega.{arith}

-- what a division leaves is less than the divisor
pub cut_over : (n d : ℕ) → 0 < d → n ≤ (n / d + 1) * d
cut_over n d D = go (n / d) (n % d) (mod-lt n D) (div-add-mod' n d)
  where
    go : (x r : ℕ) → r < d → x * d + r ≡ n → n ≤ (x + 1) * d
    go x r h e = omega arith

-- m is the scale of the slope dx / dy
module _ (m dx dy y q w : ℕ) (D : 0 < dy) (N : 0 < m) where
  not_more : (s t : ℕ) → s * m ≤ y * t → t * dy ≤ dx * m → s * dy ≤ y * dx
  not_more s t a b =
      let p : s * m * dy ≤ y * t * dy = mul-le-mul_right dy a in
      let p' : y * (t * dy) ≤ y * (dx * m) = mul-le-mul_left y b in
      let r : s * dy * m ≤ y * dx * m = omega arith in
      le_of_mul-le-mul_right r N

  by_weight : (s : ℕ) → s * dy ≤ y * dx → y * q ≤ w * dy → s * q ≤ w * dx
  by_weight s k h =
      let a : s * dy * q ≤ y * dx * q = mul-le-mul_right q k in
      let b : y * q * dx ≤ w * dy * dx = mul-le-mul_right dx h in
      let c : s * q * dy ≤ w * dx * dy = omega arith in
      le_of_mul-le-mul_right c D

  pub aside_under : y * q ≤ w * dy → y * (dx * m / dy) / m * q ≤ w * dx
  aside_under h =
      let t = dx * m / dy in
      by_weight (y * t / m) (not_more (y * t / m) t (div-mul-le_self (y * t) m) (div-mul-le_self (dx * m) dy)) h

  not_less : (s t : ℕ) → y ≤ m → y * t ≤ (s + 1) * m → dx * m ≤ (t + 1) * dy → y * dx ≤ (s + 2) * dy
  not_less s t l a b =
      let p : y * t * dy ≤ (s + 1) * m * dy = mul-le-mul_right dy a in
      let p' : y * (dx * m) ≤ y * ((t + 1) * dy) = mul-le-mul_left y b in
      let p'' : y * dy ≤ m * dy = mul-le-mul_right dy l in
      let r : y * dx * m ≤ (s + 2) * dy * m = omega arith in
      le_of_mul-le-mul_right r N

  by_weight_over : (s : ℕ) → y * dx ≤ (s + 2) * dy → w * dy ≤ y * q → w * dx ≤ (s + 2) * q
  by_weight_over s k h =
      let a : y * dx * q ≤ (s + 2) * dy * q = mul-le-mul_right q k in
      let b : w * dy * dx ≤ y * q * dx = mul-le-mul_right dx h in
      let c : w * dx * dy ≤ (s + 2) * q * dy = omega arith in
      le_of_mul-le-mul_right c D

  pub aside_over : y ≤ m → w * dy ≤ y * q → w * dx ≤ (y * (dx * m / dy) / m + 2) * q
  aside_over l h =
      let t = dx * m / dy in
      by_weight_over (y * t / m) (not_less (y * t / m) t l (cut_over (y * t) m N) (cut_over (dx * m) dy D)) h
