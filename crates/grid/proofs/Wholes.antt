-- A whole number z of either sign is p - n for two naturals, in many ways. By these, sums and products of whole numbers are sums and products of
-- naturals. Assumes nothing.
use mathlib.Core.Path.{◌≡◌, refl, ap}
use mathlib.Core.Bool.{Bool, true, false, not, cond}
use Prim.Native.Nat.{ℕ, zero, suc, ◌+◌, ◌-◌, ◌*◌, ◌≤◌, ◌<◌}
use native.Mathlib.Omega.{arith}
use lib.IntN.{ℤ, pos, negsuc, neg_ℤ, sub_ℕ, ◌+ℤ◌, ◌*ℤ◌}
use lib.Dec.{T, ltb, ltb→lt, nltb→le}

-- ---- a whole number is p - n

-- the one that is written down has one of them 0
abbrev pub over : ℤ → ℕ
over (pos k) = k
over (negsuc k) = 0

abbrev pub under : ℤ → ℕ
under (pos k) = 0
under (negsuc k) = suc k

pub record Is (z : ℤ) (p n : ℕ) : Type 0 where
  pub says : over z + n ≡ under z + p

pub own : (z : ℤ) → Is z (over z) (under z)
own z = record { says = omega arith }

-- one number, two ways; and two that are written alike are one
pub one_number : (z : ℤ) (p n p' n' : ℕ) → Is z p n → Is z p' n' → p + n' ≡ p' + n
one_number z p n p' n' a b = let u = a.says in let v = b.says in omega arith

pub same_number : (z z' : ℤ) (p n p' n' : ℕ) → Is z p n → Is z' p' n' → p + n' ≡ p' + n → z ≡ z'
same_number z z' p n p' n' a b e = go z z' (let u = a.says in let v = b.says in omega arith)
  where
    go : (z z' : ℤ) → over z + under z' ≡ over z' + under z → z ≡ z'
    go (pos k) (pos l) h = ap pos (omega arith)
    go (pos k) (negsuc l) h = absurd (omega arith)
    go (negsuc k) (pos l) h = absurd (omega arith)
    go (negsuc k) (negsuc l) h = ap negsuc (omega arith)

neg_over : (z : ℤ) → (over (neg_ℤ z) ≡ under z) × (under (neg_ℤ z) ≡ over z)
neg_over (pos zero) = (refl, refl)
neg_over (pos (suc k)) = (refl, refl)
neg_over (negsuc k) = (refl, refl)

pub is_neg : (z : ℤ) (p n : ℕ) → Is z p n → Is (neg_ℤ z) n p
is_neg z p n a = let u = a.says in let k = neg_over z in record { says = omega arith }

less_over : (a b : ℕ) → over (sub_ℕ a b) + b ≡ under (sub_ℕ a b) + a
less_over a b = go (ltb a b) (ltb→lt a b) (nltb→le a b)
  where
    go : (t : Bool) → (T t → a < b) → (T (not t) → b ≤ a) → over (cond t (negsuc (b - suc a)) (pos (a - b))) + b ≡ under (cond t (negsuc (b - suc a)) (pos (a - b))) + a
    go true h k = let l = h tt in omega arith
    go false h k = let l = k tt in omega arith

sum_over : (x y : ℤ) → over (x +ℤ y) + (under x + under y) ≡ under (x +ℤ y) + (over x + over y)
sum_over (pos a) (pos b) = omega arith
sum_over (pos a) (negsuc b) = let h = less_over a (suc b) in omega arith
sum_over (negsuc a) (pos b) = let h = less_over b (suc a) in omega arith
sum_over (negsuc a) (negsuc b) = omega arith

pub is_sum : (x y : ℤ) (p n p' n' : ℕ) → Is x p n → Is y p' n' → Is (x +ℤ y) (p + p') (n + n')
is_sum x y p n p' n' a b = let u = a.says in let v = b.says in let k = sum_over x y in record { says = omega arith }

pub times_own : (k : ℕ) (z : ℤ) → Is (pos k *ℤ z) (k * over z) (k * under z)
times_own k (pos a) = record { says = omega arith }
times_own k (negsuc a) = let h = neg_over (pos (k * suc a)) in record { says = omega arith }

pub is_times : (k : ℕ) (z : ℤ) (p n : ℕ) → Is z p n → Is (pos k *ℤ z) (k * p) (k * n)
is_times k z p n a =
    let u : (over z + n) * k ≡ (under z + p) * k = ap (λ (x : ℕ). x * k) a.says in
    let v = (times_own k z).says in
    record { says = two (over (pos k *ℤ z)) (under (pos k *ℤ z)) (over z) (under z) p n k u v }
  where
    two : (O U o u p n k : ℕ) → (o + n) * k ≡ (u + p) * k → O + k * u ≡ U + k * o → O + k * n ≡ U + k * p
    two O U o u p n k a b = omega arith
