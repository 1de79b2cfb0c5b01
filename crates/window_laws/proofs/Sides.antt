-- Values before and after an exact point on an axis, which has the whole weights v and w of two ends; and the way there from whole numbers. Assumes nothing.
use mathlib.Core.Path.{◌≡◌, subst}
use Prim.Native.Nat.{ℕ, ◌+◌, ◌-◌, ◌*◌, ◌≤◌, ◌<◌}
use native.Mathlib.Nat.{mul_comm, mul_assoc, mul_left_comm, mul-pos, mul-le-mul_right, le_of_mul-le-mul_right}
use native.Mathlib.Omega.{arith}
use lib.Dec.{T, leb→le}
use lib.IntN.{ℤ, pos, negsuc, ◌*ℤ◌}
use lib.Signed.{◌≤ℤ◌}
use lib.Ieee.{Float, le}
use lib.Ieee.Scale.{finite}
use lib.Ieee.Positive.{den, den_pos}
use Rattle.numbers.proofs.FloatOrder.{plus, minus, le→cross, cross→le, through}
use Rattle.grid.specs.Points.{q_times, Exactly}
use Rattle.cover.proofs.Offsets.{mean_p, mean_n, mean_d}
use Rattle.grid.proofs.Wholes.{over, under, Is, own, is_times}
use Rattle.cover.proofs.WholePoints.{is_point, exact_is}
use Rattle.cover.proofs.Boxes.{mean_most, mean_least, spread_eq}

-- the value m is at most the point, and at least the point
pub record Before (m : Float) (v w : ℕ) (x y : Float) : Type 0 where
  pub is : plus m * mean_d v w x y + mean_n v w x y * den m ≤ mean_p v w x y * den m + minus m * mean_d v w x y

pub record After (m : Float) (v w : ℕ) (x y : Float) : Type 0 where
  pub is : mean_p v w x y * den m + minus m * mean_d v w x y ≤ plus m * mean_d v w x y + mean_n v w x y * den m

-- ---- what is before and what is after

module _ (v w : ℕ) (x y : Float) (Q : 0 < v + w) where
  pub point_pos : 0 < mean_d v w x y
  point_pos = mul-pos Q (mul-pos (den_pos x) (den_pos y))

  pub in_turn : (m m' : Float) → T (finite m) → T (finite m') → Before m v w x y → After m' v w x y → T (le m m')
  in_turn m m' p q b a =
      cross→le m m' p q
      (through (plus m) (minus m) (den m) (mean_p v w x y) (mean_n v w x y) (mean_d v w x y) (plus m') (minus m') (den m') point_pos b.is a.is)

module _ (v w : ℕ) (x y m : Float) (fx : T (finite x)) (fy : T (finite y)) (fm : T (finite m)) where
  -- what is at most both ends is before the point, what is at least both is after it
  pub before_both : T (le m x) → T (le m y) → Before m v w x y
  before_both h k = record { is = mean_least v w (plus x) (minus x) (den x) (plus y) (minus y) (den y) (plus m) (minus m) (den m) (le→cross m x fm fx h) (le→cross m y fm fy k) }

  pub after_both : T (le x m) → T (le y m) → After m v w x y
  after_both h k = record { is = mean_most v w (plus x) (minus x) (den x) (plus y) (minus y) (den y) (plus m) (minus m) (den m) (le→cross x m fx fm h) (le→cross y m fy fm k) }

-- ---- an end is a point: the weights are 1 and 0, or 0 and 1

first_before : (p n d px lx dx py ly dy : ℕ) → p * dx + lx * d ≤ px * d + n * dx → p * ((1 + 0) * (dx * dy)) + (1 * (lx * dy) + 0 * (ly * dx)) * d ≤ (1 * (px * dy) + 0 * (py * dx)) * d + n * ((1 + 0) * (dx * dy))
first_before p n d px lx dx py ly dy h = omega (arith, mul-le-mul_right dy h)

first_after : (p n d px lx dx py ly dy : ℕ) → px * d + n * dx ≤ p * dx + lx * d → (1 * (px * dy) + 0 * (py * dx)) * d + n * ((1 + 0) * (dx * dy)) ≤ p * ((1 + 0) * (dx * dy)) + (1 * (lx * dy) + 0 * (ly * dx)) * d
first_after p n d px lx dx py ly dy h = omega (arith, mul-le-mul_right dy h)

second_before : (p n d px lx dx py ly dy : ℕ) → p * dy + ly * d ≤ py * d + n * dy → p * ((0 + 1) * (dx * dy)) + (0 * (lx * dy) + 1 * (ly * dx)) * d ≤ (0 * (px * dy) + 1 * (py * dx)) * d + n * ((0 + 1) * (dx * dy))
second_before p n d px lx dx py ly dy h = omega (arith, mul-le-mul_right dx h)

second_after : (p n d px lx dx py ly dy : ℕ) → py * d + n * dy ≤ p * dy + ly * d → (0 * (px * dy) + 1 * (py * dx)) * d + n * ((0 + 1) * (dx * dy)) ≤ p * ((0 + 1) * (dx * dy)) + (0 * (lx * dy) + 1 * (ly * dx)) * d
second_after p n d px lx dx py ly dy h = omega (arith, mul-le-mul_right dx h)

module _ (x y m : Float) (fm : T (finite m)) where
  pub before_start : T (finite x) → T (le m x) → Before m 1 0 x y
  before_start fx h = record { is = first_before (plus m) (minus m) (den m) (plus x) (minus x) (den x) (plus y) (minus y) (den y) (le→cross m x fm fx h) }

  pub after_start : T (finite x) → T (le x m) → After m 1 0 x y
  after_start fx h = record { is = first_after (plus m) (minus m) (den m) (plus x) (minus x) (den x) (plus y) (minus y) (den y) (le→cross x m fx fm h) }

  pub before_end : T (finite y) → T (le m y) → Before m 0 1 x y
  before_end fy h = record { is = second_before (plus m) (minus m) (den m) (plus x) (minus x) (den x) (plus y) (minus y) (den y) (le→cross m y fm fy h) }

  pub after_end : T (finite y) → T (le y m) → After m 0 1 x y
  after_end fy h = record { is = second_after (plus m) (minus m) (den m) (plus x) (minus x) (den x) (plus y) (minus y) (den y) (le→cross y m fy fm h) }

-- ---- from whole numbers

le_parts : (x y : ℤ) → x ≤ℤ y → over x + under y ≤ over y + under x
le_parts (pos a) (pos b) h = let k = leb→le a b h.le in omega arith
le_parts (pos a) (negsuc b) h = absurd h.le
le_parts (negsuc a) (pos b) h = omega arith
le_parts (negsuc a) (negsuc b) h = let k = leb→le b a h.le in omega arith

le_says : (x y : ℤ) (p n p' n' : ℕ) → x ≤ℤ y → Is x p n → Is y p' n' → p + n' ≤ p' + n
le_says x y p n p' n' h a b = let t = le_parts x y h in let u = a.says in let k = b.says in omega arith

-- q is v + a: by the weights of the ends
from_weights : (os us oe ue oz uz v a : ℕ) → (v + a) * oz + ((v + a) * us + a * (ue + os)) ≤ (v + a) * os + a * (oe + us) + (v + a) * uz → (v + a) * oz + (v * us + a * ue) ≤ v * os + a * oe + (v + a) * uz
from_weights os us oe ue oz uz v a h = omega arith

to_weights : (os us oe ue oz uz v a : ℕ) → (v + a) * os + a * (oe + us) + (v + a) * uz ≤ (v + a) * oz + ((v + a) * us + a * (ue + os)) → v * os + a * oe + (v + a) * uz ≤ (v + a) * oz + (v * us + a * ue)
to_weights os us oe ue oz uz v a h = omega arith

-- two sums of three terms, of which each is known by another name
in_line : (m uz oz m⁻ x us os x⁻ y ue oe y⁻ A B C D E F G H I J L O : ℕ) → m + uz ≡ oz + m⁻ → x + us ≡ os + x⁻ → y + ue ≡ oe + y⁻
    → A ≡ oz → B ≡ us → C ≡ ue → D ≡ os → E ≡ oe → F ≡ uz → G ≡ m → H ≡ x⁻ → I ≡ y⁻ → J ≡ x → L ≡ y → O ≡ m⁻
    → (A + (B + C) ≤ D + E + F → G + (H + I) ≤ J + L + O) × (D + E + F ≤ A + (B + C) → J + L + O ≤ G + (H + I))
in_line m uz oz m⁻ x us os x⁻ y ue oe y⁻ A B C D E F G H I J L O h1 h2 h3 e1 e2 e3 e4 e5 e6 e7 e8 e9 e10 e11 e12 = (λ h. omega arith, λ h. omega arith)

-- both sides of an order, times k
times_three : (A B C D E F k : ℕ) → (A + (B + C) ≤ D + E + F → A * k + (B * k + C * k) ≤ D * k + E * k + F * k) × (D + E + F ≤ A + (B + C) → D * k + E * k + F * k ≤ A * k + (B * k + C * k))
times_three A B C D E F k = (λ h. omega (arith, mul-le-mul_right k h), λ h. omega (arith, mul-le-mul_right k h))

by_parts : (g p q r s o k n : ℕ) → (g * n + (p * k * n + q * k * n) ≤ r * k * n + s * k * n + o * n → (g + (p + q) * k) * n ≤ ((r + s) * k + o) * n) × (r * k * n + s * k * n + o * n ≤ g * n + (p * k * n + q * k * n) → ((r + s) * k + o) * n ≤ (g + (p + q) * k) * n)
by_parts g p q r s o k n = (λ h. omega arith, λ h. omega arith)

-- the exact values: X - X⁻ over dx is (os - us) / n, and so on
module _ (X X⁻ dx os us Y Y⁻ dy oe ue M M⁻ dm oz uz n v a : ℕ) (N : 0 < n) (hx : X * n + dx * us ≡ dx * os + X⁻ * n) (hy : Y * n + dy * ue ≡ dy * oe + Y⁻ * n) (hm : M * n + dm * uz ≡ dm * oz + M⁻ * n) where
  abbrev K : ℕ
  K = (v + a) * (dx * dy)

  abbrev k : ℕ
  k = dx * dy * dm

  orders : ((v + a) * oz * k + (v * us * k + a * ue * k) ≤ v * os * k + a * oe * k + (v + a) * uz * k → M * K * n + (v * (X⁻ * dy) * dm * n + a * (Y⁻ * dx) * dm * n) ≤ v * (X * dy) * dm * n + a * (Y * dx) * dm * n + M⁻ * K * n) × (v * os * k + a * oe * k + (v + a) * uz * k ≤ (v + a) * oz * k + (v * us * k + a * ue * k) → v * (X * dy) * dm * n + a * (Y * dx) * dm * n + M⁻ * K * n ≤ M * K * n + (v * (X⁻ * dy) * dm * n + a * (Y⁻ * dx) * dm * n))
  orders =
      in_line (M * n * K) (dm * uz * K) (dm * oz * K) (M⁻ * n * K) (X * n * (v * dy * dm)) (dx * us * (v * dy * dm)) (dx * os * (v * dy * dm)) (X⁻ * n * (v * dy * dm))
      (Y * n * (a * dx * dm)) (dy * ue * (a * dx * dm)) (dy * oe * (a * dx * dm)) (Y⁻ * n * (a * dx * dm))
      ((v + a) * oz * k) (v * us * k) (a * ue * k) (v * os * k) (a * oe * k) ((v + a) * uz * k) (M * K * n) (v * (X⁻ * dy) * dm * n) (a * (Y⁻ * dx) * dm * n) (v * (X * dy) * dm * n) (a * (Y * dx) * dm * n) (M⁻ * K * n)
      (spread_eq (M * n) (dm * uz) (dm * oz) (M⁻ * n) K hm) (spread_eq (X * n) (dx * us) (dx * os) (X⁻ * n) (v * dy * dm) hx) (spread_eq (Y * n) (dy * ue) (dy * oe) (Y⁻ * n) (a * dx * dm) hy)
      (simp (mul_assoc, mul_comm, mul_left_comm)) (simp (mul_assoc, mul_comm, mul_left_comm)) (simp (mul_assoc, mul_comm, mul_left_comm)) (simp (mul_assoc, mul_comm, mul_left_comm))
      (simp (mul_assoc, mul_comm, mul_left_comm)) (simp (mul_assoc, mul_comm, mul_left_comm)) (simp (mul_assoc, mul_comm, mul_left_comm)) (simp (mul_assoc, mul_comm, mul_left_comm))
      (simp (mul_assoc, mul_comm, mul_left_comm)) (simp (mul_assoc, mul_comm, mul_left_comm)) (simp (mul_assoc, mul_comm, mul_left_comm)) (simp (mul_assoc, mul_comm, mul_left_comm))

  three : ((v + a) * oz + (v * us + a * ue) ≤ v * os + a * oe + (v + a) * uz → (v + a) * oz * k + (v * us * k + a * ue * k) ≤ v * os * k + a * oe * k + (v + a) * uz * k) × (v * os + a * oe + (v + a) * uz ≤ (v + a) * oz + (v * us + a * ue) → v * os * k + a * oe * k + (v + a) * uz * k ≤ (v + a) * oz * k + (v * us * k + a * ue * k))
  three = times_three ((v + a) * oz) (v * us) (a * ue) (v * os) (a * oe) ((v + a) * uz) k

  point_from : (v + a) * oz + (v * us + a * ue) ≤ v * os + a * oe + (v + a) * uz → M * K + (v * (X⁻ * dy) + a * (Y⁻ * dx)) * dm ≤ (v * (X * dy) + a * (Y * dx)) * dm + M⁻ * K
  point_from h = le_of_mul-le-mul_right ((by_parts (M * K) (v * (X⁻ * dy)) (a * (Y⁻ * dx)) (v * (X * dy)) (a * (Y * dx)) (M⁻ * K) dm n).0 (orders.0 (three.0 h))) N

  point_to : v * os + a * oe + (v + a) * uz ≤ (v + a) * oz + (v * us + a * ue) → (v * (X * dy) + a * (Y * dx)) * dm + M⁻ * K ≤ M * K + (v * (X⁻ * dy) + a * (Y⁻ * dx)) * dm
  point_to h = le_of_mul-le-mul_right ((by_parts (M * K) (v * (X⁻ * dy)) (a * (Y⁻ * dx)) (v * (X * dy)) (a * (Y * dx)) (M⁻ * K) dm n).1 (orders.1 (three.1 h))) N

-- one axis: the ends x and y are s and e, and m is z, in n-ths
module _ (n q a : ℕ) (N : 0 < n) (A : a ≤ q) (x y m : Float) (s e z : ℤ) (hx : Exactly x s n) (hy : Exactly y e n) (hm : Exactly m z n) where
  left_over : q ≡ q - a + a
  left_over = omega arith

  pub before_whole : (pos q *ℤ z) ≤ℤ q_times q a s e → Before m (q - a) a x y
  before_whole h =
      record {
        is =
            point_from (plus x) (minus x) (den x) (over s) (under s) (plus y) (minus y) (den y) (over e) (under e) (plus m) (minus m) (den m) (over z) (under z) n (q - a) a N (exact_is x s n hx) (exact_is y e n hy) (exact_is m z n hm)
            (from_weights (over s) (under s) (over e) (under e) (over z) (under z) (q - a) a
            (subst (λ (k : ℕ). k * over z + (k * under s + a * (under e + over s)) ≤ k * over s + a * (over e + under s) + k * under z) left_over
            (le_says (pos q *ℤ z) (q_times q a s e) (q * over z) (q * under z) (q * over s + a * (over e + under s)) (q * under s + a * (under e + over s)) h (is_times q z (over z) (under z) (own z)) (is_point q a s e))));
      }

  pub after_whole : q_times q a s e ≤ℤ (pos q *ℤ z) → After m (q - a) a x y
  after_whole h =
      record {
        is =
            point_to (plus x) (minus x) (den x) (over s) (under s) (plus y) (minus y) (den y) (over e) (under e) (plus m) (minus m) (den m) (over z) (under z) n (q - a) a N (exact_is x s n hx) (exact_is y e n hy) (exact_is m z n hm)
            (to_weights (over s) (under s) (over e) (under e) (over z) (under z) (q - a) a
            (subst (λ (k : ℕ). k * over s + a * (over e + under s) + k * under z ≤ k * over z + (k * under s + a * (under e + over s))) left_over
            (le_says (q_times q a s e) (pos q *ℤ z) (q * over s + a * (over e + under s)) (q * under s + a * (under e + over s)) (q * over z) (q * under z) h (is_point q a s e) (is_times q z (over z) (under z) (own z)))));
      }
