-- Bounds on the size of floats, kept by rounding: `Bounded f q k v` says that v is finite and of size at most q * 2 ^ k, which is a value of the format.
-- Assumes nothing.
use mathlib.Core.Path.{◌≡◌, refl, sym, ap, ◌∙◌, subst}
use Prim.Native.Nat.{ℕ, zero, suc, ◌+◌, ◌-◌, ◌*◌, ◌^◌, ◌≤◌, ◌<◌}
use native.Mathlib.Nat.{le_trans, le_of_eq, lt_of_lt_of_le, mul-one, mul_comm, mul_assoc, mul_left_comm, mul-pos, mul-le-mul, mul-le-mul_right, zero-lt-suc}
use native.Mathlib.Omega.{arith}
use mathlib.Core.Bool.{Bool, true, false, cond}
use lib.IntN.{pos}
use lib.Dec.{T}
use borrow.Author.Tests.{ne_eqb}
use lib.Pow.{pow-add, pow_mono, shl_lt}
use lib.Ieee.{Float, nan, inf, fin, Format, prec, emax, low, up, down, unlike, round, neg, add, sub, mul, div, lt, le, is_nan}
use lib.Ieee.Exact.{HasValue, round_exact}
use lib.Ieee.Fits.{up_pos, down_pos}
use lib.Ieee.Order.{round_mono}
use lib.Ieee.Scale.{finite}
use lib.Ieee.Positive.{num, den, den_pos}
use Rattle.numbers.specs.Order.{greatest_of, magnitude_of}
use Rattle.numbers.proofs.Values.{neg_round}
use Rattle.numbers.proofs.FloatOrder.{plus, minus}
use Rattle.numbers.proofs.FloatSum.{Rounds, over, short, add_rounds}
use Rattle.numbers.proofs.FloatFractions.{nonneg_of_value, own_value, values_of_le, finite_under, nonneg_under}

pub record Bounded (q k : ℕ) (v : Float) : Type 0 where
  pub fine : T (finite v)
  pub most : num v ≤ q * 2 ^ k * den v

-- q * 2 ^ k is a value of the format
pub record Room (f : Format) (q k : ℕ) : Type 0 where
  pub digits : q < 2 ^ prec f
  pub exponent : prec f + k ≤ suc (emax f)

-- ---- rounding keeps a bound

neg_bounded : (q k : ℕ) (v : Float) → Bounded q k v → Bounded q k (neg v)
unfolding neg
neg_bounded q k nan b = absurd b.fine
neg_bounded q k (inf s) b = absurd b.fine
neg_bounded q k (fin s m e) b = record { fine = tt; most = b.most }

module _ (f : Format) (q k : ℕ) (room : Room f q k) where
  limit : Float
  limit = round f false (q * 2 ^ k) 1

  limit_is : HasValue limit false (q * 2 ^ k) 1
  unfolding limit
  limit_is =
      round_exact f false (q * 2 ^ k) 1 q (k + low f) (zero-lt-suc 0) room.digits
      (lt_of_lt_of_le (shl_lt (prec f) (k + low f) room.digits) (pow_mono (fits (prec f) (low f) (emax f) room.exponent)))
      (mul_assoc q (2 ^ k) (2 ^ low f) ∙ ap (λ (x : ℕ). q * x) (sym (pow-add 2 k (low f))) ∙ sym (mul-one (q * 2 ^ (k + low f))))
    where
      fits : (p l m : ℕ) → p + k ≤ suc m → p + (k + l) ≤ l + suc m
      fits p l m h = omega arith

  plain_bounded : (a c : ℕ) → 0 < c → a ≤ q * 2 ^ k * c → Bounded q k (round f false a c)
  unfolding limit
  plain_bounded a c C h =
      let z = round f false a c in
      let l : T (le z limit) = round_mono f a c (q * 2 ^ k) 1 C (zero-lt-suc 0) (le_trans (le_of_eq (mul-one a)) h) in
      let n = nonneg_of_value limit (q * 2 ^ k) 1 limit_is in
      record {
        fine = finite_under f a c limit C n l;
        most =
            le_trans (le_of_eq (sym (mul-one (num z))))
            (values_of_le z limit (num z) (den z) (q * 2 ^ k) 1 (own_value z (nonneg_under f a c limit C n l)) limit_is l);
      }

  pub round_bounded : (s : Bool) (a c : ℕ) → 0 < c → a ≤ q * 2 ^ k * c → Bounded q k (round f s a c)
  round_bounded false a c C h = plain_bounded a c C h
  round_bounded true a c C h = subst (Bounded q k) (neg_round f false a c) (neg_bounded q k (round f false a c) (plain_bounded a c C h))

  rounds_bounded : (z : Float) (P N C : ℕ) → 0 < C → P ≤ q * 2 ^ k * C → N ≤ q * 2 ^ k * C → Rounds f z P N C → Bounded q k z
  rounds_bounded z P N C pC h l (over m e) = subst (Bounded q k) (sym e) (round_bounded false (P - N) C pC (omega arith))
  rounds_bounded z P N C pC h l (short m e) = subst (Bounded q k) (sym e) (round_bounded true (N - P) C pC (omega arith))

-- ---- sums

pub parts_le : (v : Float) → (plus v ≤ num v) × (minus v ≤ num v)
parts_le nan = (omega arith, omega arith)
parts_le (inf s) = (omega arith, omega arith)
parts_le (fin true m e) = (omega arith, omega arith)
parts_le (fin false m e) = (omega arith, omega arith)

together : (p n d g q r w : ℕ) → p ≤ q * w * d → n ≤ r * w * g → p * g + n * d ≤ (q + r) * w * (d * g)
together p n d g q r w h l = omega (arith, mul-le-mul_right g h, mul-le-mul_right d l)

pub add_bounded : (f : Format) (q r k : ℕ) (x y : Float) → Room f (q + r) k → Bounded q k x → Bounded r k y → Bounded (q + r) k (add f x y)
add_bounded f q r k x y room a b =
    let p = parts_le x in
    let n = parts_le y in
    rounds_bounded f (q + r) k room (add f x y) (plus x * den y + plus y * den x) (minus x * den y + minus y * den x) (den x * den y)
    (mul-pos (den_pos x) (den_pos y))
    (together (plus x) (plus y) (den x) (den y) q r (2 ^ k) (le_trans p.0 a.most) (le_trans n.0 b.most))
    (together (minus x) (minus y) (den x) (den y) q r (2 ^ k) (le_trans p.1 a.most) (le_trans n.1 b.most))
    (add_rounds f x y a.fine b.fine)

pub sub_bounded : (f : Format) (q r k : ℕ) (x y : Float) → Room f (q + r) k → Bounded q k x → Bounded r k y → Bounded (q + r) k (sub f x y)
unfolding sub
sub_bounded f q r k x y room a b = add_bounded f q r k x (neg y) room a (neg_bounded r k y b)

-- a wider bound
pub wider : (q k r l : ℕ) (v : Float) → q * 2 ^ k ≤ r * 2 ^ l → Bounded q k v → Bounded r l v
wider q k r l v h b = record { fine = b.fine; most = le_trans b.most (mul-le-mul_right (den v) h) }

-- ---- products and quotients

pub mul_bounded : (f : Format) (q k r l : ℕ) (x y : Float) → Room f (q * r) (k + l) → Bounded q k x → Bounded r l y → Bounded (q * r) (k + l) (mul f x y)
unfolding mul
mul_bounded f q k r l nan y room a b = absurd a.fine
mul_bounded f q k r l (inf s) y room a b = absurd a.fine
mul_bounded f q k r l (fin s m e) nan room a b = absurd b.fine
mul_bounded f q k r l (fin s m e) (inf t) room a b = absurd b.fine
mul_bounded f q k r l (fin s m e) (fin t n d) room a b =
    round_bounded f (q * r) (k + l) room (unlike s t) (m * up e * (n * up d)) (down e * down d) (mul-pos (down_pos e) (down_pos d))
    (le_trans (mul-le-mul a.most b.most)
    (le_of_eq (regroup q (2 ^ k) (down e) r (2 ^ l) (down d) ∙ ap (λ (w : ℕ). q * r * w * (down e * down d)) (sym (pow-add 2 k l)))))
  where
    regroup : (q w c r x d : ℕ) → q * w * c * (r * x * d) ≡ q * r * (w * x) * (c * d)
    regroup q w c r x d = simp (mul_assoc, mul_left_comm)

-- y is at least 1 / 2 ^ l in size
pub record Apart (l : ℕ) (y : Float) : Type 0 where
  pub fine : T (finite y)
  pub least : den y ≤ 2 ^ l * num y

pub div_bounded : (f : Format) (q k l : ℕ) (x y : Float) → Room f q (k + l) → Bounded q k x → Apart l y → Bounded q (k + l) (div f x y)
unfolding div
div_bounded f q k l nan y room a b = absurd a.fine
div_bounded f q k l (inf s) y room a b = absurd a.fine
div_bounded f q k l (fin s m e) nan room a b = absurd b.fine
div_bounded f q k l (fin s m e) (inf t) room a b = absurd b.fine
div_bounded f q k l (fin s m e) (fin t zero d) room a b = absurd (none (up d) (2 ^ l) (down d) (down_pos d) b.least)
  where
    none : (u w c : ℕ) → 0 < c → c ≤ w * (0 * u) → ⊥
    none u w c h k = omega arith
div_bounded f q k l (fin s m e) (fin t (suc n) d) room a b =
    rw (ne_eqb (suc n) 0 (λ h. omega arith))
    (round_bounded f q (k + l) room (unlike s t) (m * up e * down d) (suc n * up d * down e) (mul-pos (mul-pos (zero-lt-suc n) (up_pos d)) (down_pos e))
    (le_trans (mul-le-mul a.most b.least)
    (le_of_eq (regroup q (2 ^ k) (down e) (2 ^ l) (suc n * up d) ∙ ap (λ (w : ℕ). q * w * (suc n * up d * down e)) (sym (pow-add 2 k l))))))
  where
    regroup : (q w c x n : ℕ) → q * w * c * (x * n) ≡ q * (w * x) * (n * c)
    regroup q w c x n = simp (mul_assoc, mul_comm, mul_left_comm)

-- ---- the size of a value, and the larger of a value and 0

pub magnitude_bounded : (q k : ℕ) (v : Float) → Bounded q k v → Bounded q k (magnitude_of v)
unfolding magnitude_of
magnitude_bounded q k nan b = b
magnitude_bounded q k (inf s) b = absurd b.fine
magnitude_bounded q k (fin s m e) b = record { fine = tt; most = b.most }

pub magnitude_apart : (l : ℕ) (v : Float) → Apart l v → Apart l (magnitude_of v)
unfolding magnitude_of
magnitude_apart l nan b = b
magnitude_apart l (inf s) b = absurd b.fine
magnitude_apart l (fin s m e) b = record { fine = tt; least = b.least }

zero_bounded : (q k : ℕ) → Bounded q k (fin false 0 (pos 0))
zero_bounded q k = record { fine = tt; most = omega arith }

pub greatest_bounded : (q k : ℕ) (v : Float) → Bounded q k v → Bounded q k (greatest_of v (fin false 0 (pos 0)))
unfolding greatest_of
greatest_bounded q k v b = go (lt v (fin false 0 (pos 0))) (is_nan v)
  where
    go : (p n : Bool) → Bounded q k (cond p (fin false 0 (pos 0)) (cond n (fin false 0 (pos 0)) v))
    go true n = zero_bounded q k
    go false true = zero_bounded q k
    go false false = b

-- what is finite is below the infinity
pub below_infinity : (v : Float) → T (finite v) → lt v (inf false) ≡ true
unfolding lt
below_infinity nan t = absurd t
below_infinity (inf s) t = absurd t
below_infinity (fin s m e) t = refl
