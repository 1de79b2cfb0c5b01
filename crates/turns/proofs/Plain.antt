-- A plain turn is the turn of the definition: the tolerance goes by the greater t_max, the walk does not stop, and the two are not near. Assumes nothing.
use Rattle.std.proofs.Common.{◌≡◌, Bool, true, false, cond, ◌&&◌, T, ◌⊎◌, negsuc, sym, refl, ap, ◌∙◌, subst, inl, inr, true≢false}
use lib.Ieee.{Float, nan, inf, fin, binary64, add, sub, mul, lt, le, eq, is_nan}
use Rattle.numbers.specs.Order.{least_of, greatest_of, magnitude_of}
use Rattle.numbers.proofs.FloatOrder.{number, float_le_trans, at_most, not_under, lt_le, le_number}
use Rattle.numbers.proofs.Extremes.{no_nan}
use Rattle.turns.specs.Turns.{nought, one, infinite, finite_of, tolerance_of, near_of, stop, both, single, further_of}
use Rattle.turns.specs.Inside.{wide, plainly}
use Rattle.turns.proofs.Floats.{last_false}
use Rattle.turns.proofs.Loop.{near_far}
use Rattle.turns.proofs.Tolerance.{first, second, tolerance_is}

-- ---- the order of floats

pub not_le : (a b : Float) → lt a b ≡ true → le b a ≡ false
not_le a b h = go (le b a) refl
  where
    go : (t : Bool) → le b a ≡ t → le b a ≡ false
    go true e = absurd (true≢false (sym h ∙ not_under b a (subst T (sym e) tt)))
    go false e = e

not_lt : (a b : Float) → le a b ≡ true → lt b a ≡ false
not_lt a b h = not_under a b (subst T (sym h) tt)

number_above : (x y : Float) → lt x y ≡ true → T (number y)
number_above x y h = le_number x y (lt_le x y h)

-- a < x < y
passes_on : (a x y : Float) → T (number a) → lt a x ≡ true → lt x y ≡ true → lt a y ≡ true
passes_on a x y n h k = go (lt a y) refl
  where
    go : (t : Bool) → lt a y ≡ t → lt a y ≡ true
    go true e = e
    go false e = absurd (true≢false (sym h ∙ not_under x a (float_le_trans x y a (lt_le x y k) (at_most y a (number_above x y k) n e))))

own_size : (v : Float) → lt nought v ≡ true → magnitude_of v ≡ v
unfolding lt magnitude_of
own_size nan h = absurd (true≢false (sym h))
own_size (inf true) h = absurd (true≢false (sym h))
own_size (inf false) h = refl
own_size (fin true m e) h = absurd (true≢false (sym h))
own_size (fin false m e) h = refl

-- ---- the tolerance, where x < y and x is above 0

module _ (x y : Float) (p : lt nought x ≡ true) (h : lt x y ≡ true) where
  y_above : lt nought y ≡ true
  y_above = passes_on nought x y tt p h

  lesser_first : greatest_of (greatest_of one x) y ≡ greatest_of one y
  unfolding is_nan
  lesser_first = go (lt one x) refl
    where
      go : (t : Bool) → lt one x ≡ t → greatest_of (greatest_of one x) y ≡ greatest_of one y
      go true e = ap (λ (z : Float). greatest_of z y) (second one x e) ∙ second x y h ∙ sym (second one y (passes_on one x y tt e h))
      go false e = ap (λ (z : Float). greatest_of z y) (first one x e refl)

  greater_first : greatest_of (greatest_of one y) x ≡ greatest_of one y
  unfolding is_nan
  greater_first = go (lt one y) refl (lt one x) refl
    where
      go : (t : Bool) → lt one y ≡ t → (u : Bool) → lt one x ≡ u → greatest_of (greatest_of one y) x ≡ greatest_of one y
      go true e u f = ap (λ (z : Float). greatest_of z x) (second one y e) ∙ first y x (not_under x y (lt_le x y h)) (no_nan y (number_above x y h)) ∙ sym (second one y e)
      go false e true f = absurd (true≢false (sym (passes_on one x y tt f h) ∙ e))
      go false e false f = ap (λ (z : Float). greatest_of z x) (first one y e refl) ∙ first one x f refl ∙ sym (first one y e refl)

  tolerance_x : tolerance_of x y ≡ wide y
  tolerance_x =
      sym (tolerance_is x y)
      ∙ ap (mul binary64 (fin false 1 (negsuc 48)))
      (ap (λ (z : Float). greatest_of (greatest_of one z) (magnitude_of y)) (own_size x p) ∙ ap (greatest_of (greatest_of one x)) (own_size y y_above) ∙ lesser_first)

  tolerance_y : tolerance_of y x ≡ wide y
  tolerance_y =
      sym (tolerance_is y x)
      ∙ ap (mul binary64 (fin false 1 (negsuc 48)))
      (ap (λ (z : Float). greatest_of (greatest_of one z) (magnitude_of x)) (own_size y y_above) ∙ ap (greatest_of (greatest_of one y)) (own_size x p) ∙ greater_first)

  least_x : least_of x y ≡ x
  unfolding least_of
  least_x = rw (not_under x y (lt_le x y h), no_nan x (number_above nought x p))

  least_y : least_of y x ≡ x
  unfolding least_of
  least_y = rw h

-- ---- the turn

parted : (a b c d : Bool) → (a && cond b c d) ≡ true → (a ≡ true) × (((b ≡ true) × (c ≡ true)) ⊎ (d ≡ true))
parted true true c d h = (refl, inl (refl, h))
parted true false c d h = (refl, inr h)
parted false b c d h = absurd (true≢false (sym h))

endless : (v : Float) → eq v infinite ≡ true → v ≡ inf false
unfolding eq
endless nan h = absurd (true≢false (sym h))
endless (inf true) h = absurd (true≢false (sym h))
endless (inf false) h = refl
endless (fin s m e) h = absurd (true≢false (sym h))

none_over : (v : Float) → lt (inf false) v ≡ false
unfolding lt
none_over nan = refl
none_over (inf s) = refl
none_over (fin s m e) = refl

-- by an infinite t_max the tolerance is infinite, and the walk does not stop
endless_wide : add binary64 one (wide (inf false)) ≡ inf false
unfolding add mul greatest_of lt is_nan
endless_wide = refl

apart : (tx ty tol : Float) → lt tol (magnitude_of (sub binary64 tx ty)) ≡ true → near_of tx ty tol ≡ false
unfolding near_of
apart tx ty tol h = sym (last_false (finite_of tx) (finite_of ty) (le (magnitude_of (sub binary64 tx ty)) tol) (not_le tol (magnitude_of (sub binary64 tx ty)) h))

turns : (a b c : Bool) → a ≡ false → b ≡ false → single c ≡ cond a stop (cond b both (single c))
turns a b c p q = rw (p, q)

by_parts : (tx ty near tol : Float) → tolerance_of tx ty ≡ tol → least_of tx ty ≡ near → lt (add binary64 one tol) near ≡ false → near_of tx ty tol ≡ false
    → single (lt tx ty) ≡ further_of tx ty
unfolding further_of
by_parts tx ty near tol t l h k =
    turns (lt (add binary64 one (tolerance_of tx ty)) (least_of tx ty)) (near_of tx ty (tolerance_of tx ty)) (lt tx ty)
    (ap (λ (z : Float). lt (add binary64 one z) (least_of tx ty)) t ∙ ap (lt (add binary64 one tol)) l ∙ h) (ap (near_of tx ty) t ∙ k)

module _ (tx ty : Float) where
  abbrev gap : Float
  gap = magnitude_of (sub binary64 tx ty)

  -- of the lesser and the greater, in whichever order
  settled : (near far : Float) → tolerance_of tx ty ≡ wide far → least_of tx ty ≡ near → (far ≡ inf false → (tx ≡ inf false) ⊎ (ty ≡ inf false))
      → ((lt (wide far) gap ≡ true) × (le near (add binary64 one (wide far)) ≡ true)) ⊎ (eq far infinite ≡ true) → single (lt tx ty) ≡ further_of tx ty
  settled near far t l i (inl p) = by_parts tx ty near (wide far) t l (not_lt near (add binary64 one (wide far)) p.1) (apart tx ty (wide far) p.0)
  settled near far t l i (inr p) =
      by_parts tx ty near (wide far) t l
      (ap (λ (z : Float). lt (add binary64 one (wide z)) near) (endless far p) ∙ ap (λ (z : Float). lt z near) endless_wide ∙ none_over near)
      (near_far tx ty (wide far) (i (endless far p)))

  pub plain_x : lt tx ty ≡ true → plainly tx ty gap ≡ true → single true ≡ further_of tx ty
  unfolding plainly
  plain_x h k =
      let p = parted (lt nought tx) (lt (wide ty) gap) (le tx (add binary64 one (wide ty))) (eq ty infinite) k in
      ap single (sym h) ∙ settled tx ty (tolerance_x tx ty p.0 h) (least_x tx ty p.0 h) inr p.1

  pub plain_y : lt ty tx ≡ true → plainly ty tx gap ≡ true → single false ≡ further_of tx ty
  unfolding plainly
  plain_y h k =
      let p = parted (lt nought ty) (lt (wide tx) gap) (le ty (add binary64 one (wide tx))) (eq tx infinite) k in
      ap single (sym (not_under ty tx (lt_le ty tx h))) ∙ settled ty tx (tolerance_y ty tx p.0 h) (least_y ty tx p.0 h) inl p.1
