-- The error of `round`, in units of the format's smallest value: at most half of a unit of the last digit kept, for subnormal results too. `over_by` and
-- `under_by` say it as a q-th of the value and one unit, for any q that the format's digits allow. Assumes nothing.
use Rattle.std.proofs.Common.{◌≡◌, ℕ, ◌+◌, ◌-◌, ◌*◌, ◌/◌, ◌%◌, ◌^◌, ◌<◌, ◌≤◌, Bool, true, false, not, T, leb, ap, ◌∙◌, subst, le_trans, le_of_eq, le-add_right, le_of_lt, mul-le-mul_right, mod-lt, mul_assoc, mul_comm, add-mul, mul-le-mul_left, mul-pos, div-add-mod', le-div_iff_mul-le, mul-one, mul_left_comm, le-add_left, arith, eqb→eq, leb→le, pow_pos, pow-add}
use Prim.Native.Nat.{compare, Ordering}
use lib.Dec.{is_le, compare_is_eq, nleb→lt}
use lib.Ieee.{Format, prec, low, size, nearest}
use lib.Ieee.Digits.{size_reaches}
use lib.Ieee.Fits.{two, two-le_pos}
use lib.Ieee.Nearest.{closest}
use lib.Ieee.Order.{drop}
use lib.Ieee.Scale.{grid}

-- ---- `closest` is within a half
-- a weak reading of `compare`, enough for the error
abbrev Side : Ordering → ℕ → ℕ → Type 0
Side Ordering.lt a b = a ≤ b
Side Ordering.eq a b = a ≡ b
Side Ordering.gt a b = b ≤ a

side : (a b : ℕ) → Side (compare a b) a b
side a b = go (compare a b) (leb→le a b) (nleb→lt a b) (eqb→eq a b)
  where
    go : (o : Ordering) → (T (is_le o) → a ≤ b) → (T (not (is_le o)) → b < a) → (T (compare_is_eq o) → a ≡ b) → Side o a b
    go Ordering.lt h k e = h tt
    go Ordering.eq h k e = e tt
    go Ordering.gt h k e = le_of_lt (k tt)

-- n = q * u + r with r < u
over_of : (o : Ordering) (q u r : ℕ) → Side o (r * 2) u → r ≤ u → 2 * (nearest q o * u) ≤ 2 * (q * u + r) + u
over_of Ordering.lt q u r s h = omega arith
over_of Ordering.eq q u r s h = tie (q % 2) (parity q)
  where
    parity : (x : ℕ) → x % 2 ≤ 1
    parity x = omega arith

    tie : (z : ℕ) → z ≤ 1 → 2 * ((q + z) * u) ≤ 2 * (q * u + r) + u
    tie z k = omega (arith, mul-le-mul_right u k)
over_of Ordering.gt q u r s h = omega arith

under_of : (o : Ordering) (q u r : ℕ) → Side o (r * 2) u → r ≤ u → 2 * (q * u + r) ≤ 2 * (nearest q o * u) + u
under_of Ordering.lt q u r s h = omega arith
under_of Ordering.eq q u r s h = omega (arith, add-mul q (q % 2) u)
under_of Ordering.gt q u r s h = omega arith

module _ (n u : ℕ) (U : 0 < u) where
  pub closest_over : 2 * (closest n u * u) ≤ 2 * n + u
  closest_over =
      let r : n % u < u = mod-lt n U in
      subst (λ (x : ℕ). 2 * (closest n u * u) ≤ 2 * x + u) (div-add-mod' n u)
      (over_of (compare (n % u * 2) u) (n / u) u (n % u) (side (n % u * 2) u) (le_of_lt r))

  pub closest_under : 2 * n ≤ 2 * (closest n u * u) + u
  closest_under =
      let r : n % u < u = mod-lt n U in
      subst (λ (x : ℕ). 2 * x ≤ 2 * (closest n u * u) + u) (div-add-mod' n u)
      (under_of (compare (n % u * 2) u) (n / u) u (n % u) (side (n % u * 2) u) (le_of_lt r))

-- ---- the unit that `round` chooses, c * 2 ^ drop: at most 2 ^ (1 - p) of the fraction, or c itself
module _ (p n c : ℕ) (P : 0 < p) (C : 0 < c) where
  abbrev pub unit : ℕ
  unit = c * 2 ^ drop p n c

  pub unit_pos : 0 < unit
  unit_pos = mul-pos C (pow_pos (drop p n c))

  spread : (z : ℕ) → p ≤ z → p - 1 + (z - p) < z
  spread z h = omega arith

  pub unit_normal : p ≤ size (n / c) → 2 ^ (p - 1) * unit ≤ n
  unit_normal h =
      let k = drop p n c in
      let lo : 2 ^ (p - 1 + k) * c ≤ n = (le-div_iff_mul-le C).0 (size_reaches (n / c) (p - 1 + k) (spread (size (n / c)) h)) in
      let e : 2 ^ (p - 1) * (c * 2 ^ k) ≡ 2 ^ (p - 1 + k) * c = rw pow-add (simp (mul_assoc, mul_comm, mul_left_comm)) in
      le_trans (le_of_eq e) lo

  none_left : (z : ℕ) → z < p → z - p ≡ 0
  none_left z h = omega arith

  pub unit_small : size (n / c) < p → unit ≡ c
  unit_small h = ap (λ (k : ℕ). c * 2 ^ k) (none_left (size (n / c)) h) ∙ mul-one c

  -- either way
  pub unit_le : 2 ^ (p - 1) * unit ≤ n + 2 ^ (p - 1) * c
  unit_le = go (leb p (size (n / c))) (leb→le p (size (n / c))) (nleb→lt p (size (n / c)))
    where
      go : (b : Bool) → (T b → p ≤ size (n / c)) → (T (not b) → size (n / c) < p) → 2 ^ (p - 1) * unit ≤ n + 2 ^ (p - 1) * c
      go true h k = le_trans (unit_normal (h tt)) (le-add_right n (2 ^ (p - 1) * c))
      go false h k = le_trans (le_of_eq (ap (λ (x : ℕ). 2 ^ (p - 1) * x) (unit_small (k tt)))) (le-add_left (2 ^ (p - 1) * c) n)

-- ---- the error of `grid`, with h = 2 ^ (prec - 1): a half of a unit is at most n / (2 * h), or c / 2
-- from the two bounds on x = grid * c: 2 x ≤ 2 n + u and h * u ≤ n + h c
over_any : (x n u h c : ℕ) → 2 * x ≤ 2 * n + u → h * u ≤ n + h * c → x * (2 * h) ≤ n * (2 * h + 1) + h * c
over_any x n u h c a b = omega (arith, mul-le-mul_right h a)

under_any : (x n u h c : ℕ) → 2 * n ≤ 2 * x + u → h * u ≤ n + h * c → n * (2 * h) ≤ x * (2 * h) + n + h * c
under_any x n u h c a b = omega (arith, mul-le-mul_right h a)

-- half of the significand's range, 2 ^ 52 or 2 ^ 23
abbrev pub half : Format → ℕ
half f = 2 ^ (prec f - 1)

module _ (f : Format) (a c : ℕ) (C : 0 < c) where
  abbrev n : ℕ
  n = a * 2 ^ low f

  P : 0 < prec f
  P = two-le_pos (prec f) (two f)

  grid_is : grid f a c * c ≡ closest n (unit (prec f) n c P C) * unit (prec f) n c P C
  grid_is = simp (mul_assoc, mul_comm, mul_left_comm)

  over_half : 2 * (grid f a c * c) ≤ 2 * n + unit (prec f) n c P C
  over_half = rw grid_is (closest_over n (unit (prec f) n c P C) (unit_pos (prec f) n c P C))

  under_half : 2 * n ≤ 2 * (grid f a c * c) + unit (prec f) n c P C
  under_half = rw grid_is (closest_under n (unit (prec f) n c P C) (unit_pos (prec f) n c P C))

  grid_over_any : grid f a c * c * (2 * half f) ≤ a * 2 ^ low f * (2 * half f + 1) + half f * c
  grid_over_any = over_any (grid f a c * c) n (unit (prec f) n c P C) (half f) c over_half (unit_le (prec f) n c P C)

  grid_under_any : a * 2 ^ low f * (2 * half f) ≤ grid f a c * c * (2 * half f) + a * 2 ^ low f + half f * c
  grid_under_any = under_any (grid f a c * c) n (unit (prec f) n c P C) (half f) c under_half (unit_le (prec f) n c P C)

-- ---- a q-th of the value, and one unit

-- a relative error of 1 / (2 h) is one of 1 / q
weaken : (x z n c h q : ℕ) → q ≤ 2 * h → x * (2 * h) ≤ z * (2 * h) + n + h * c → x * q ≤ z * q + n + q * c
weaken x z n c h q H a = go (leb x (z + c)) (leb→le x (z + c)) (nleb→lt x (z + c))
  where
    far : (y : ℕ) → x ≡ z + c + y → x * q ≤ z * q + n + q * c
    far y e =
        let k : y * q ≤ y * (2 * h) = mul-le-mul_left y H in
        let b : (z + c + y) * (2 * h) ≤ z * (2 * h) + n + h * c = rw e at a in
        rw e (omega arith)

    rest : z + c < x → x ≡ z + c + (x - (z + c))
    rest l = omega arith

    go : (b : Bool) → (T b → x ≤ z + c) → (T (not b) → z + c < x) → x * q ≤ z * q + n + q * c
    go true h k = omega (arith, mul-le-mul_right q (h tt))
    go false h k = far (x - (z + c)) (rest (k tt))

split_one : (x n h c : ℕ) → x ≤ n * (2 * h + 1) + h * c → x ≤ n * (2 * h) + n + h * c
split_one x n h c k = omega arith

module _ (f : Format) (a c : ℕ) (C : 0 < c) (q : ℕ) (wide : q ≤ 2 * half f) where
  pub over_by : grid f a c * c * q ≤ a * 2 ^ low f * q + a * 2 ^ low f + q * c
  over_by =
      weaken (grid f a c * c) (a * 2 ^ low f) (a * 2 ^ low f) c (half f) q wide
      (split_one (grid f a c * c * (2 * half f)) (a * 2 ^ low f) (half f) c (grid_over_any f a c C))

  pub under_by : a * 2 ^ low f * q ≤ grid f a c * c * q + a * 2 ^ low f + q * c
  under_by = weaken (a * 2 ^ low f) (grid f a c * c) (a * 2 ^ low f) c (half f) q wide (grid_under_any f a c C)
