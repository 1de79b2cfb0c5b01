-- The lesser and the greater of two floats: one of the two, and, of two that are no NaN, not above, or not below, either. Assumes nothing.
use Rattle.std.proofs.Common.{◌≡◌, Bool, true, false, cond, T, refl}
use lib.Ieee.{Float, nan, inf, fin, lt, le, is_nan}
use Rattle.numbers.specs.Order.{least_of, greatest_of}
use Rattle.numbers.proofs.FloatOrder.{number, at_most, lt_le, le_self}

one_of_three : (P : Float → Type 0) (p q : Bool) (a b : Float) → P a → P b → P (cond p b (cond q b a))
one_of_three P true q a b x y = y
one_of_three P false true a b x y = y
one_of_three P false false a b x y = x

module _ (P : Float → Type 0) (a b : Float) (x : P a) (y : P b) where
  pub least_one : P (least_of a b)
  unfolding least_of
  least_one = one_of_three P (lt b a) (is_nan a) a b x y

  pub greatest_one : P (greatest_of a b)
  unfolding greatest_of
  greatest_one = one_of_three P (lt a b) (is_nan a) a b x y

pub no_nan : (a : Float) → T (number a) → is_nan a ≡ false
unfolding is_nan
no_nan nan p = absurd p
no_nan (inf s) p = refl
no_nan (fin s m e) p = refl

module _ (a b : Float) (p : T (number a)) (q : T (number b)) where
  pub least_under : T (le (least_of a b) a) × T (le (least_of a b) b)
  unfolding least_of
  least_under = rw (no_nan a p) (go (lt b a) refl)
    where
      go : (t : Bool) → lt b a ≡ t → T (le (cond t b a) a) × T (le (cond t b a) b)
      go true e = (lt_le b a e, le_self b q)
      go false e = (le_self a p, at_most a b p q e)

  pub greatest_over : T (le a (greatest_of a b)) × T (le b (greatest_of a b))
  unfolding greatest_of
  greatest_over = rw (no_nan a p) (go (lt a b) refl)
    where
      go : (t : Bool) → lt a b ≡ t → T (le a (cond t b a)) × T (le b (cond t b a))
      go true e = (lt_le a b e, le_self b q)
      go false e = (le_self a p, at_most b a q p e)
