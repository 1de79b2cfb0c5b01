-- A sum of floats keeps the order of its first summand, and of its second: it is the exact sum, a signed fraction, rounded once, and
-- rounding keeps the order. Overflow to an infinity is included. Assumes nothing.
use Rattle.std.proofs.Common.{◌≡◌, ℕ, ◌+◌, ◌-◌, ◌*◌, ◌<◌, ◌≤◌, Bool, true, false, cond, not, ◌&&◌, T, ltb, pos, sym, refl, ap, ◌∙◌, subst, mul-le-mul_right, mul_comm, add_comm, mul-pos, le_of_mul-le-mul_right, arith, ltb→lt, nltb→le}
use lib.Ieee.{Float, nan, inf, fin, Format, binary32, binary64, up, down, round, neg, sum, add, le}
use lib.Ieee.Order.{round_mono}
use lib.Ieee.Scale.{finite}
use lib.Ieee.Positive.{den, den_pos}
use Rattle.numbers.proofs.Values.{neg_round}
use Rattle.numbers.proofs.FloatOrder.{number, above, under, plus, minus, le→cross, float_le_trans, le_neg, le_number, least_of_all, greatest_of_all, neg_number}

-- ---- the sign of a rounded fraction

pub zero_is : (f : Format) → round f false 0 1 ≡ fin false 0 (pos 0)
unfolding round
zero_is binary32 = refl
zero_is binary64 = refl

nothing_over : (a c : ℕ) → 0 * c ≤ a * 1
nothing_over a c = omega arith

pub zero_le : (f : Format) (a c : ℕ) → 0 < c → T (le (fin false 0 (pos 0)) (round f false a c))
zero_le f a c C = subst (λ (z : Float). T (le z (round f false a c))) (zero_is f) (round_mono f 0 1 a c (omega arith) C (nothing_over a c))

le_zero : (f : Format) (a c : ℕ) → 0 < c → a ≤ 0 → T (le (round f false a c) (fin false 0 (pos 0)))
le_zero f a c C h = subst (λ (z : Float). T (le (round f false a c) z)) (zero_is f) (round_mono f a c 0 1 C (omega arith) (none a c h))
  where
    none : (a c : ℕ) → a ≤ 0 → a * 1 ≤ 0 * c
    none a c h = omega arith

-- a rounded fraction below zero
pub below_zero : (f : Format) (a c : ℕ) → 0 < c → T (le (round f true a c) (fin true 0 (pos 0)))
unfolding neg
below_zero f a c C = rw (← neg_round f false a c) (le_neg (fin false 0 (pos 0)) (round f false a c) (zero_le f a c C))

plain_number : (f : Format) (a c : ℕ) → 0 < c → T (number (round f false a c))
plain_number f a c C = le_number (fin false 0 (pos 0)) (round f false a c) (zero_le f a c C)

pub round_number : (f : Format) (s : Bool) (a c : ℕ) → 0 < c → T (number (round f s a c))
round_number f false a c C = plain_number f a c C
round_number f true a c C = rw (← neg_round f false a c) (neg_number (round f false a c) (plain_number f a c C))

-- ---- z is the signed fraction (P - N) / C, rounded; at P = N it is a zero of either sign

pub data Rounds (f : Format) (z : Float) (P N C : ℕ) : Type 0 where
  over : N ≤ P → z ≡ round f false (P - N) C → Rounds f z P N C
  short : P ≤ N → z ≡ round f true (N - P) C → Rounds f z P N C

-- two of them, in the order of the fractions
module _ (f : Format) (P N C P' N' C' : ℕ) (pC : 0 < C) (pC' : 0 < C') (h : P * C' + N' * C ≤ P' * C + N * C') where
  over_cross : N ≤ P → N' ≤ P' → (P - N) * C' ≤ (P' - N') * C
  over_cross k k' = go (P - N) (P' - N') (omega arith) (omega arith)
    where
      go : (x y : ℕ) → P ≡ N + x → P' ≡ N' + y → x * C' ≤ y * C
      go x y e e' = omega (arith, ap (λ (z : ℕ). z * C') e, ap (λ (z : ℕ). z * C) e')

  short_cross : P ≤ N → P' ≤ N' → (N' - P') * C ≤ (N - P) * C'
  short_cross k k' = go (N - P) (N' - P') (omega arith) (omega arith)
    where
      go : (x y : ℕ) → N ≡ P + x → N' ≡ P' + y → y * C ≤ x * C'
      go x y e e' = omega (arith, ap (λ (z : ℕ). z * C') e, ap (λ (z : ℕ). z * C) e')

  -- a value over zero is at most one below it only where both are zero
  none : N ≤ P → P' ≤ N' → (P - N ≤ 0) × (N' - P' ≤ 0)
  none k k' = go (P - N) (N' - P') (omega arith) (omega arith)
    where
      go : (x y : ℕ) → P ≡ N + x → N' ≡ P' + y → (x ≤ 0) × (y ≤ 0)
      go x y e e' =
          let u = ap (λ (z : ℕ). z * C') e in
          let v = ap (λ (z : ℕ). z * C) e' in
          let a : x * C' ≤ 0 * C' = omega arith in
          let b : y * C ≤ 0 * C = omega arith in
          (le_of_mul-le-mul_right a pC', le_of_mul-le-mul_right b pC)

  pub rounds_mono : (z z' : Float) → Rounds f z P N C → Rounds f z' P' N' C' → T (le z z')
  rounds_mono z z' (over k e) (over k' e') = rw (e, e') (round_mono f (P - N) C (P' - N') C' pC pC' (over_cross k k'))
  rounds_mono z z' (short k e) (short k' e') =
      rw (e, e', ← neg_round f false (N - P) C, ← neg_round f false (N' - P') C')
      (le_neg (round f false (N' - P') C') (round f false (N - P) C) (round_mono f (N' - P') C' (N - P) C pC' pC (short_cross k k')))
  rounds_mono z z' (short k e) (over k' e') =
      rw (e, e')
      (float_le_trans (round f true (N - P) C) (fin true 0 (pos 0)) (round f false (P' - N') C') (below_zero f (N - P) C pC)
      (float_le_trans (fin true 0 (pos 0)) (fin false 0 (pos 0)) (round f false (P' - N') C') (unfold le in tt) (zero_le f (P' - N') C' pC')))
  rounds_mono z z' (over k e) (short k' e') =
      let o = none k k' in
      rw (e, e', ← neg_round f false (N' - P') C')
      (float_le_trans (round f false (P - N) C) (fin true 0 (pos 0)) (neg (round f false (N' - P') C'))
      (float_le_trans (round f false (P - N) C) (fin false 0 (pos 0)) (fin true 0 (pos 0)) (le_zero f (P - N) C pC o.0) (unfold le in tt))
      (unfold neg in le_neg (round f false (N' - P') C') (fin false 0 (pos 0)) (le_zero f (N' - P') C' pC' o.1)))

-- ---- a sum rounds its exact value

sum_rounds : (f : Format) (s : Bool) (a : ℕ) (t : Bool) (b c : ℕ) → Rounds f (sum f s a t b c) (above s a + above t b) (under s a + under t b) c
unfolding sum
sum_rounds f false a false b c = over (omega arith) (ap (λ (n : ℕ). round f false n c) (omega arith))
sum_rounds f true a true b c = short (omega arith) (ap (λ (n : ℕ). round f true n c) (omega arith))
sum_rounds f true a false b c = go (ltb a b) (ltb b a) (ltb→lt a b) (nltb→le a b) (ltb→lt b a) (nltb→le b a)
  where
    go : (l g : Bool) → (T l → a < b) → (T (not l) → b ≤ a) → (T g → b < a) → (T (not g) → a ≤ b)
        → Rounds f (cond l (round f false (b - a) c) (round f (true && g) (a - b) c)) (0 + b) (a + 0) c
    go true g p q r s = let k = p tt in over (omega arith) (ap (λ (n : ℕ). round f false n c) (omega arith))
    go false true p q r s = let k = r tt in short (omega arith) (ap (λ (n : ℕ). round f true n c) (omega arith))
    go false false p q r s = let k = q tt in let l = s tt in over (omega arith) (ap (λ (n : ℕ). round f false n c) (omega arith))
sum_rounds f false a true b c = go (ltb a b) (ltb→lt a b) (nltb→le a b)
  where
    go : (l : Bool) → (T l → a < b) → (T (not l) → b ≤ a) → Rounds f (cond l (round f true (b - a) c) (round f false (a - b) c)) (a + 0) (0 + b) c
    go true p q = let k = p tt in short (omega arith) (ap (λ (n : ℕ). round f true n c) (omega arith))
    go false p q = let k = q tt in over (omega arith) (ap (λ (n : ℕ). round f false n c) (omega arith))

-- a finite value's parts, over another denominator
parts : (s : Bool) (m d : ℕ) → (above s m * d ≡ above s (m * d)) × (under s m * d ≡ under s (m * d))
parts true m d = (omega arith, refl)
parts false m d = (refl, omega arith)

pub add_rounds : (f : Format) (x y : Float) → T (finite x) → T (finite y)
    → Rounds f (add f x y) (plus x * den y + plus y * den x) (minus x * den y + minus y * den x) (den x * den y)
unfolding add
add_rounds f nan y p q = absurd p
add_rounds f (inf s) y p q = absurd p
add_rounds f (fin s m e) nan p q = absurd q
add_rounds f (fin s m e) (inf t) p q = absurd q
add_rounds f (fin s m e) (fin t n d) p q =
    let x = parts s (m * up e) (down d) in
    let y = parts t (n * up d) (down e) in
    rw (x.0, x.1, y.0, y.1) (sum_rounds f s (m * up e * down d) t (n * up d * down e) (down e * down d))

-- ---- so it keeps the order of its first summand

sum_cross : (p n d p' n' d' q o g : ℕ) → p * d' + n' * d ≤ p' * d + n * d'
    → (p * g + q * d) * (d' * g) + (n' * g + o * d') * (d * g) ≤ (p' * g + q * d') * (d * g) + (n * g + o * d) * (d' * g)
sum_cross p n d p' n' d' q o g h = omega (arith, mul-le-mul_right (g * g) h)

finite_mono : (f : Format) (x x' y : Float) → T (finite x) → T (finite x') → T (finite y) → T (le x x') → T (le (add f x y) (add f x' y))
finite_mono f x x' y p p' q h =
    rounds_mono f (plus x * den y + plus y * den x) (minus x * den y + minus y * den x) (den x * den y) (plus x' * den y + plus y * den x') (minus x' * den y + minus y * den x') (den x' * den y)
    (mul-pos (den_pos x) (den_pos y)) (mul-pos (den_pos x') (den_pos y))
    (sum_cross (plus x) (minus x) (den x) (plus x') (minus x') (den x') (plus y) (minus y) (den y) (le→cross x x' p p' h))
    (add f x y) (add f x' y) (add_rounds f x y p q) (add_rounds f x' y p' q)

rounds_number : (f : Format) (z : Float) (P N C : ℕ) → 0 < C → Rounds f z P N C → T (number z)
rounds_number f z P N C C+ (over k e) = rw e (round_number f false (P - N) C C+)
rounds_number f z P N C C+ (short k e) = rw e (round_number f true (N - P) C C+)

-- a sum of a number and a finite value is a number
pub add_number : (f : Format) (x y : Float) → T (number x) → T (finite y) → T (number (add f x y))
add_number f nan y p q = absurd p
add_number f (inf s) nan p q = absurd q
add_number f (inf s) (inf t) p q = absurd q
add_number f (inf s) (fin t n d) p q = unfold add in tt
add_number f (fin s m e) y p q =
    let x = fin s m e in
    rounds_number f (add f x y) (plus x * den y + plus y * den x) (minus x * den y + minus y * den x) (den x * den y) (mul-pos (den_pos x) (den_pos y)) (add_rounds f x y tt q)

pub add_mono : (f : Format) (x x' y : Float) → T (finite y) → T (le x x') → T (le (add f x y) (add f x' y))
add_mono f x x' nan q h = absurd q
add_mono f x x' (inf t) q h = absurd q
add_mono f nan x' (fin t n d) q h = absurd (unfold le in h)
add_mono f (inf true) x' (fin t n d) q h = unfold add in least_of_all (add f x' (fin t n d)) (add_number f x' (fin t n d) (le_number (inf true) x' h) tt)
add_mono f (inf false) nan (fin t n d) q h = absurd (unfold le in h)
add_mono f (inf false) (inf true) (fin t n d) q h = absurd (unfold le in h)
add_mono f (inf false) (inf false) (fin t n d) q h = unfold add le in tt
add_mono f (inf false) (fin u o g) (fin t n d) q h = absurd (unfold le in h)
add_mono f (fin s m e) nan (fin t n d) q h = absurd (unfold le in h)
add_mono f (fin s m e) (inf true) (fin t n d) q h = absurd (unfold le in h)
add_mono f (fin s m e) (inf false) (fin t n d) q h = unfold add in greatest_of_all (add f (fin s m e) (fin t n d)) (add_number f (fin s m e) (fin t n d) tt tt)
add_mono f (fin s m e) (fin u o g) (fin t n d) q h = finite_mono f (fin s m e) (fin u o g) (fin t n d) tt tt tt h

-- ---- and the summands may change places

mixed : (f : Format) (a b c : ℕ) (l g : Bool) → (T l → a < b) → (T (not l) → b ≤ a) → (T g → b < a) → (T (not g) → a ≤ b)
    → cond l (round f false (b - a) c) (round f (true && g) (a - b) c) ≡ cond g (round f true (a - b) c) (round f false (b - a) c)
mixed f a b c true true p q r s = let k = p tt in let l = r tt in absurd (omega arith)
mixed f a b c true false p q r s = refl
mixed f a b c false true p q r s = refl
mixed f a b c false false p q r s = let k = q tt in let l = s tt in ap (λ (n : ℕ). round f false n c) (omega arith)

sum_swap : (f : Format) (s : Bool) (a : ℕ) (t : Bool) (b c : ℕ) → sum f s a t b c ≡ sum f t b s a c
unfolding sum
sum_swap f false a false b c = ap (λ (n : ℕ). round f false n c) (add_comm a b)
sum_swap f true a true b c = ap (λ (n : ℕ). round f true n c) (add_comm a b)
sum_swap f true a false b c = mixed f a b c (ltb a b) (ltb b a) (ltb→lt a b) (nltb→le a b) (ltb→lt b a) (nltb→le b a)
sum_swap f false a true b c = sym (mixed f b a c (ltb b a) (ltb a b) (ltb→lt b a) (nltb→le b a) (ltb→lt a b) (nltb→le a b))

pub add_swap : (f : Format) (x y : Float) → add f x y ≡ add f y x
unfolding add
add_swap f nan nan = refl
add_swap f nan (inf t) = refl
add_swap f nan (fin t n d) = refl
add_swap f (inf s) nan = refl
add_swap f (inf true) (inf true) = refl
add_swap f (inf true) (inf false) = refl
add_swap f (inf false) (inf true) = refl
add_swap f (inf false) (inf false) = refl
add_swap f (inf s) (fin t n d) = refl
add_swap f (fin s m e) nan = refl
add_swap f (fin s m e) (inf t) = refl
add_swap f (fin s m e) (fin t n d) =
    sum_swap f s (m * up e * down d) t (n * up d * down e) (down e * down d)
    ∙ ap (λ (c : ℕ). sum f t (n * up d * down e) s (m * up e * down d) c) (mul_comm (down e) (down d))
