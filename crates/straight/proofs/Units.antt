-- Finite values as whole numbers of the format's smallest value: v is (more - less) / 2 ^ low, where one of the two is 0. A difference of two of them
-- rounds a whole number of such units, so that it is 0 only where they are equal. Assumes nothing.
use mathlib.Core.Path.{◌≡◌, refl, sym, ap, ◌∙◌, subst}
use mathlib.Core.Logic.{◌⊎◌, inl, inr}
use Prim.Native.Nat.{ℕ, zero, suc, ◌+◌, ◌-◌, ◌*◌, ◌^◌, ◌≤◌, ◌<◌}
use native.Mathlib.Nat.{le_trans, le_of_eq, lt_of_lt_of_le, lt_of_le_of_lt, mul-pos, mul_comm, mul_right_comm, mul-le-mul_right, mul-lt-mul_of_pos_right, le_of_mul-le-mul_right, lt_of_mul-lt-mul_right}
use native.Mathlib.Omega.{arith}
use mathlib.Core.Bool.{Bool, true, false}
use lib.Dec.{T}
use lib.IntN.{ℤ}
use lib.Pow.{pow-add, pow_pos}
use lib.Ieee.{Float, nan, inf, fin, Format, prec, emax, low, up, down, round, neg, sub, le, fits}
use lib.Ieee.Scale.{finite, overflow, round_same}
use lib.Ieee.Order.{round_mono}
use lib.Ieee.Positive.{den, den_pos}
use Rattle.numbers.proofs.Values.{fits_says, on_grid, neg_round}
use Rattle.numbers.proofs.FloatOrder.{plus, minus, cross→le, le_neg, neg_finite}
use Rattle.numbers.proofs.FloatSum.{Rounds, over, short, add_rounds}
use Rattle.numbers.proofs.Sums.{sub_mul}

-- the size has at most prec digits and then zeros
pub record Units (f : Format) (v : Float) : Type 0 where
  pub fine : T (finite v)
  pub more : ℕ
  pub less : ℕ
  pub more_is : plus v * 2 ^ low f ≡ more * den v
  pub less_is : minus v * 2 ^ low f ≡ less * den v
  pub one_sign : (less ≡ 0) ⊎ (more ≡ 0)
  pub digits : ℕ
  pub places : ℕ
  pub few : digits < 2 ^ prec f
  pub size_is : more + less ≡ digits * 2 ^ places
  pub room : more + less < overflow f

-- below what the format has no value for
inside : (f : Format) (m : ℕ) (e : ℤ) (j : ℕ) → m * up e < 2 ^ suc (emax f) * down e → m * up e * 2 ^ low f ≡ m * 2 ^ j * down e → m * 2 ^ j < overflow f
inside f m e j h k =
    lt_of_lt_of_le
    (lt_of_mul-lt-mul_right (down e) (lt_of_le_of_lt (le_of_eq (sym k))
    (lt_of_lt_of_le (mul-lt-mul_of_pos_right h (pow_pos (low f))) (le_of_eq (mul_right_comm (2 ^ suc (emax f)) (down e) (2 ^ low f))))))
    (le_of_eq (mul_comm (2 ^ suc (emax f)) (2 ^ low f) ∙ sym (pow-add 2 (low f) (suc (emax f)))))

below : {x y z : ℕ} → x ≡ y → y < z → x < z
below {x} {y} {z} e h = subst (λ (k : ℕ). k < z) (sym e) h

no_parts : (s : Bool) (e : ℤ) → (plus (fin s zero e) ≡ 0) × (minus (fin s zero e) ≡ 0)
no_parts true e = (refl, omega arith)
no_parts false e = (omega arith, refl)

pub units_of : (f : Format) (v : Float) → T (finite v) → T (fits f v) → Units f v
units_of f nan t h = absurd t
units_of f (inf s) t h = absurd t
units_of f (fin s zero e) t h = record {
  fine = tt;
  more = 0;
  less = 0;
  more_is = rw (no_parts s e).0 (omega arith);
  less_is = rw (no_parts s e).1 (omega arith);
  one_sign = inl refl;
  digits = 0;
  places = 0;
  few = pow_pos (prec f);
  size_is = refl;
  room = pow_pos (low f + suc (emax f));
}
units_of f (fin true (suc m) e) t h =
    let k = fits_says f true m e h in
    let g = on_grid (low f) (suc m) e k.1 in
    record {
      fine = tt;
      more = 0;
      less = suc m * 2 ^ g.0;
      more_is = omega arith;
      less_is = g.1;
      one_sign = inr refl;
      digits = suc m;
      places = g.0;
      few = k.0;
      size_is = omega arith;
      room = below (omega arith) (inside f (suc m) e g.0 k.2 g.1);
    }
units_of f (fin false (suc m) e) t h =
    let k = fits_says f false m e h in
    let g = on_grid (low f) (suc m) e k.1 in
    record {
      fine = tt;
      more = suc m * 2 ^ g.0;
      less = 0;
      more_is = g.1;
      less_is = omega arith;
      one_sign = inl refl;
      digits = suc m;
      places = g.0;
      few = k.0;
      size_is = omega arith;
      room = below (omega arith) (inside f (suc m) e g.0 k.2 g.1);
    }

-- ---- the order

module _ (f : Format) {x y : Float} (a : Units f x) (b : Units f y) where
  cross : (p n d p' n' d' u P N P' N' : ℕ) → 0 < u → p * u ≡ P * d → n * u ≡ N * d → p' * u ≡ P' * d' → n' * u ≡ N' * d' → P + N' ≤ P' + N
      → p * d' + n' * d ≤ p' * d + n * d'
  cross p n d p' n' d' u P N P' N' U e₁ e₂ e₃ e₄ h =
      le_of_mul-le-mul_right
      (regroup (ap (λ (z : ℕ). z * d') e₁) (ap (λ (z : ℕ). z * d') e₂) (ap (λ (z : ℕ). z * d) e₃) (ap (λ (z : ℕ). z * d) e₄) (mul-le-mul_right (d * d') h)) U
    where
      regroup : p * u * d' ≡ P * d * d' → n * u * d' ≡ N * d * d' → p' * u * d ≡ P' * d' * d → n' * u * d ≡ N' * d' * d
          → (P + N') * (d * d') ≤ (P' + N) * (d * d') → (p * d' + n' * d) * u ≤ (p' * d + n * d') * u
      regroup a b c e h = omega arith

  pub units_le : a.more + b.less ≤ b.more + a.less → T (le x y)
  units_le h =
      cross→le x y a.fine b.fine
      (cross (plus x) (minus x) (den x) (plus y) (minus y) (den y) (2 ^ low f) a.more a.less b.more b.less (pow_pos (low f)) a.more_is
      a.less_is b.more_is b.less_is h)

-- ---- a difference

module _ (f : Format) (z : Float) (P N C P' N' C' : ℕ) (pC : 0 < C) (pC' : 0 < C') (e : P * C' ≡ P' * C) (e' : N * C' ≡ N' * C) where
  less_by : (P - N) * C' ≡ (P' - N') * C
  less_by = sub_mul P N C' ∙ ap (λ (x : ℕ). x - N * C') e ∙ ap (λ (x : ℕ). P' * C - x) e' ∙ sym (sub_mul P' N' C)

  less_by' : (N - P) * C' ≡ (N' - P') * C
  less_by' = sub_mul N P C' ∙ ap (λ (x : ℕ). x - P * C') e' ∙ ap (λ (x : ℕ). N' * C - x) e ∙ sym (sub_mul N' P' C)

  rounds_same : Rounds f z P N C → Rounds f z P' N' C'
  rounds_same (over l k) =
      over (le_of_mul-le-mul_right (le_trans (le_of_eq (sym e')) (le_trans (mul-le-mul_right C' l) (le_of_eq e))) pC)
      (k ∙ round_same f false (P - N) C (P' - N') C' pC pC' less_by)
  rounds_same (short l k) =
      short (le_of_mul-le-mul_right (le_trans (le_of_eq (sym e)) (le_trans (mul-le-mul_right C' l) (le_of_eq e'))) pC)
      (k ∙ round_same f true (N - P) C (N' - P') C' pC pC' less_by')

pub parts_neg : (v : Float) → (plus (neg v) ≡ minus v) × (minus (neg v) ≡ plus v)
unfolding neg
parts_neg nan = (refl, refl)
parts_neg (inf s) = (refl, refl)
parts_neg (fin true m e) = (refl, refl)
parts_neg (fin false m e) = (refl, refl)

pub den_neg : (v : Float) → den (neg v) ≡ den v
unfolding neg
den_neg nan = refl
den_neg (inf s) = refl
den_neg (fin s m e) = refl

module _ (f : Format) {x y : Float} (a : Units f x) (b : Units f y) where
  -- x - y is the whole number of units (more x + less y) - (less x + more y), rounded
  pub sub_units : Rounds f (sub f x y) (a.more + b.less) (a.less + b.more) (2 ^ low f)
  unfolding sub
  sub_units =
      let n = parts_neg y in
      let r = add_rounds f x (neg y) a.fine (neg_finite y b.fine) in
      let s = subst (λ (d : ℕ). Rounds f (sub f x y) (plus x * d + plus (neg y) * den x) (minus x * d + minus (neg y) * den x) (den x * d)) (den_neg y) r in
      rounds_same f (sub f x y) (plus x * den y + plus (neg y) * den x) (minus x * den y + minus (neg y) * den x) (den x * den y) (a.more + b.less)
      (a.less + b.more) (2 ^ low f)
      (mul-pos (den_pos x) (den_pos y)) (pow_pos (low f))
      (ap (λ (m : ℕ). (plus x * den y + m * den x) * 2 ^ low f) n.0 ∙ joined (plus x) (den x) (minus y) (den y) (2 ^ low f) a.more b.less a.more_is
      b.less_is)
      (ap (λ (m : ℕ). (minus x * den y + m * den x) * 2 ^ low f) n.1 ∙ joined (minus x) (den x) (plus y) (den y) (2 ^ low f) a.less b.more a.less_is
      b.more_is)
      s
    where
      joined : (p d n g u P N : ℕ) → p * u ≡ P * d → n * u ≡ N * g → (p * g + n * d) * u ≡ (P + N) * (d * g)
      joined p d n g u P N h k = regroup (ap (λ (z : ℕ). z * g) h) (ap (λ (z : ℕ). z * d) k)
        where
          regroup : p * u * g ≡ P * d * g → n * u * d ≡ N * g * d → (p * g + n * d) * u ≡ (P + N) * (d * g)
          regroup a b = omega arith

  -- by w units or more
  module _ (w : ℕ) where
    pub sub_over : 0 < w → a.less + b.more + w ≤ a.more + b.less → T (le (round f false w (2 ^ low f)) (sub f x y))
    sub_over W h = go sub_units
      where
        go : Rounds f (sub f x y) (a.more + b.less) (a.less + b.more) (2 ^ low f) → T (le (round f false w (2 ^ low f)) (sub f x y))
        go (over l k) =
            rw k
            (round_mono f w (2 ^ low f) (a.more + b.less - (a.less + b.more)) (2 ^ low f) (pow_pos (low f)) (pow_pos (low f))
            (mul-le-mul_right (2 ^ low f) (omega arith)))
        go (short l k) = absurd (omega arith)

    pub sub_under : 0 < w → a.more + b.less + w ≤ a.less + b.more → T (le (sub f x y) (neg (round f false w (2 ^ low f))))
    sub_under W h = go sub_units
      where
        go : Rounds f (sub f x y) (a.more + b.less) (a.less + b.more) (2 ^ low f) → T (le (sub f x y) (neg (round f false w (2 ^ low f))))
        go (short l k) =
            rw (k, ← neg_round f false (a.less + b.more - (a.more + b.less)) (2 ^ low f))
            (le_neg (round f false w (2 ^ low f)) (round f false (a.less + b.more - (a.more + b.less)) (2 ^ low f))
            (round_mono f w (2 ^ low f) (a.less + b.more - (a.more + b.less)) (2 ^ low f) (pow_pos (low f)) (pow_pos (low f))
            (mul-le-mul_right (2 ^ low f) (omega arith))))
        go (over l k) = absurd (omega arith)
