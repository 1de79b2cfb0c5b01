-- The bounds of lines that obey the coordinate rule: they obey it too, each is a coordinate of some line, every coordinate lies between them, and they
-- are from 0 to 2e9 apart. Assumes nothing.
use Rattle.std.proofs.Common.{◌≡◌, ℕ, zero, suc, ◌-◌, ◌*◌, ◌<◌, ◌≤◌, Bool, true, false, not, T, ltb, ◌⊎◌, List, get_or, sym, refl, subst, inl, inr, lt_irrefl, eq-or-lt_of_le, mul-pos, arith, ltb→lt}
use lib.Ieee.{Float, nan, inf, fin, binary64, up, down, neg, sum, add, sub, lt, le}
use lib.Ieee.Fits.{down_pos}
use lib.Ieee.Scale.{finite}
use Rattle.numbers.specs.Order.{least_of, greatest_of, magnitude_of}
use Rattle.numbers.proofs.OrderLaws.{magnitude_finite, magnitude_within}
use Rattle.numbers.proofs.FloatOrder.{number, float_le_trans, at_most, le_neg, neg_finite}
use Rattle.numbers.proofs.FloatSum.{zero_le, add_mono, add_swap}
use Rattle.grid.specs.Domain.{coordinate}
use Rattle.grid.proofs.Floats.{coordinate_number}
use Rattle.sizing.specs.Bounds.{picked, lowest, highest, reach}
use Rattle.sizing.proofs.Constants.{nought, 1e9, 1e9_is, 2e9, top, top_is, bottom_is}
use Rattle.numbers.proofs.Extremes.{least_one, greatest_one, least_under, greatest_over}

-- ---- what a coordinate is: finite, and from -1e9 to 1e9

pub record Coordinate (v : Float) : Type 0 where
  pub fine : T (finite v)
  pub above : T (le (neg 1e9) v)
  pub below : T (le v 1e9)

pub coordinate_says : (v : Float) → coordinate v ≡ true → Coordinate v
unfolding coordinate
coordinate_says v h =
    let k : T (le (magnitude_of v) 1e9) = subst (λ (z : Float). T (le (magnitude_of v) z)) 1e9_is (subst T (sym h) tt) in
    let w = magnitude_within v 1e9 tt k in
    record { fine = magnitude_finite v 1e9 tt k; above = w.0; below = w.1 }

-- ---- both bounds at once: of two numbers `pick` takes the one that comes first in the order R, and `none` comes last

-- the coordinates of the first n lines obey the rule
abbrev pub Lie : List Float → List Float → ℕ → Type 0
Lie starts ends n = (i : ℕ) → i < n → (coordinate (get_or starts i nan) ≡ true) × (coordinate (get_or ends i nan) ≡ true)

-- v is a coordinate of one of the first n lines
abbrev pub Among : List Float → List Float → ℕ → Float → Type 0
Among starts ends n v = (i : ℕ) × (i < n) × ((v ≡ get_or starts i nan) ⊎ (v ≡ get_or ends i nan))

module _ (pick : Float → Float → Float) (none : Float) (R : Float → Float → Type 0)
    (through : (x y z : Float) → R x y → R y z → R x z)
    (one : (P : Float → Type 0) (a b : Float) → P a → P b → P (pick a b))
    (before : (a b : Float) → T (number a) → T (number b) → R (pick a b) a × R (pick a b) b)
    (start : T (number none))
    (first : (v : Float) → coordinate v ≡ true → pick none v ≡ v)
    (starts ends : List Float) where
  abbrev all : ℕ → Float
  all n = picked pick none starts ends n

  -- what is picked of line n
  abbrev here : ℕ → Float
  here n = pick (get_or starts n nan) (get_or ends n nan)

  here_obeys : (n : ℕ) → Lie starts ends (suc n) → coordinate (here n) ≡ true
  here_obeys n h = let k = h n (omega arith) in one (λ (v : Float). coordinate v ≡ true) (get_or starts n nan) (get_or ends n nan) k.0 k.1

  fewer_lie : (n : ℕ) → Lie starts ends (suc n) → Lie starts ends n
  fewer_lie n h i l = h i (omega arith)

  picked_number : (n : ℕ) → Lie starts ends n → T (number (all n))
  unfolding picked
  picked_number zero h = start
  picked_number (suc n) h = one (λ (v : Float). T (number v)) (all n) (here n) (picked_number n (fewer_lie n h)) (coordinate_number (here n) (here_obeys n h))

  pub picked_obeys : (n : ℕ) → Lie starts ends (suc n) → coordinate (all (suc n)) ≡ true
  unfolding picked
  picked_obeys zero h = subst (λ (v : Float). coordinate v ≡ true) (sym (first (here 0) (here_obeys 0 h))) (here_obeys 0 h)
  picked_obeys (suc n) h = one (λ (v : Float). coordinate v ≡ true) (all (suc n)) (here (suc n)) (picked_obeys n (fewer_lie (suc n) h)) (here_obeys (suc n) h)

  pub picked_before : (n : ℕ) → Lie starts ends n → (i : ℕ) → i < n → R (all n) (get_or starts i nan) × R (all n) (get_or ends i nan)
  unfolding picked
  picked_before zero h i l = absurd (omega arith)
  picked_before (suc n) h i l =
      let o = before (all n) (here n) (picked_number n (fewer_lie n h)) (coordinate_number (here n) (here_obeys n h)) in
      let k = h n (omega arith) in
      let p = before (get_or starts n nan) (get_or ends n nan) (coordinate_number (get_or starts n nan) k.0) (coordinate_number (get_or ends n nan) k.1) in
      let m : i ≤ n = omega arith in
      elim (eq-or-lt_of_le m) [
        | inl e ↦ subst (λ (j : ℕ). R (all (suc n)) (get_or starts j nan) × R (all (suc n)) (get_or ends j nan)) (sym e)
            (through (all (suc n)) (here n) (get_or starts n nan) o.1 p.0, through (all (suc n)) (here n) (get_or ends n nan) o.1 p.1)
        | inr g ↦ let w = picked_before n (fewer_lie n h) i g in
            (through (all (suc n)) (all n) (get_or starts i nan) o.0 w.0, through (all (suc n)) (all n) (get_or ends i nan) o.0 w.1)
      ]

  here_among : (n : ℕ) → Among starts ends (suc n) (here n)
  here_among n = let l : n < suc n = omega arith in one (Among starts ends (suc n)) (get_or starts n nan) (get_or ends n nan) (n, l, inl refl) (n, l, inr refl)

  pub picked_among : (n : ℕ) → Lie starts ends (suc n) → Among starts ends (suc n) (all (suc n))
  unfolding picked
  picked_among zero h = subst (Among starts ends 1) (sym (first (here 0) (here_obeys 0 h))) (here_among 0)
  picked_among (suc n) h =
      let a = picked_among n (fewer_lie (suc n) h) in
      let l : a.0 < suc (suc n) = let k = a.1 in omega arith in
      one (Among starts ends (suc (suc n))) (all (suc n)) (here (suc n)) (a.0, l, a.2) (here_among (suc n))

-- ---- the least and the greatest

-- the largest finite value is above every coordinate
below_top : (v : Float) → coordinate v ≡ true → lt v top ≡ true
below_top v h = go (lt v top) refl
  where
    c : Coordinate v
    c = coordinate_says v h

    go : (b : Bool) → lt v top ≡ b → b ≡ true
    go true e = refl
    go false e = absurd (unfold le in float_le_trans top v 1e9 (at_most top v tt (coordinate_number v h) e) c.below)

above_bottom : (v : Float) → coordinate v ≡ true → lt (neg top) v ≡ true
above_bottom v h = go (lt (neg top) v) refl
  where
    c : Coordinate v
    c = coordinate_says v h

    go : (b : Bool) → lt (neg top) v ≡ b → b ≡ true
    go true e = refl
    go false e = absurd (unfold le neg in float_le_trans (neg 1e9) v (neg top) c.above (at_most v (neg top) (coordinate_number v h) (unfold neg in tt) e))

least_first : (v : Float) → coordinate v ≡ true → least_of top v ≡ v
unfolding least_of
least_first v h = rw (below_top v h)

greatest_first : (v : Float) → coordinate v ≡ true → greatest_of (neg top) v ≡ v
unfolding greatest_of
greatest_first v h = rw (above_bottom v h)

module _ (starts ends : List Float) (n : ℕ) (h : Lie starts ends (suc n)) where
  pub lowest_obeys : coordinate (lowest starts ends (suc n)) ≡ true
  unfolding lowest
  lowest_obeys = subst (λ (x : Float). coordinate (picked least_of x starts ends (suc n)) ≡ true) (sym top_is) (picked_obeys least_of top (λ x y. T (le x y)) float_le_trans least_one least_under tt least_first starts ends n h)

  pub highest_obeys : coordinate (highest starts ends (suc n)) ≡ true
  unfolding highest
  highest_obeys =
      subst (λ (x : Float). coordinate (picked greatest_of x starts ends (suc n)) ≡ true) (sym bottom_is)
      (picked_obeys greatest_of (neg top) (λ x y. T (le y x)) (λ x y z a b. float_le_trans z y x b a) greatest_one greatest_over (unfold neg in tt) greatest_first starts ends n h)

  -- the law of the bounds: each of them is a coordinate of some line, and every coordinate lies between them
  pub lowest_among : Among starts ends (suc n) (lowest starts ends (suc n))
  unfolding lowest
  lowest_among = subst (λ (x : Float). Among starts ends (suc n) (picked least_of x starts ends (suc n))) (sym top_is) (picked_among least_of top (λ x y. T (le x y)) float_le_trans least_one least_under tt least_first starts ends n h)

  pub highest_among : Among starts ends (suc n) (highest starts ends (suc n))
  unfolding highest
  highest_among =
      subst (λ (x : Float). Among starts ends (suc n) (picked greatest_of x starts ends (suc n))) (sym bottom_is)
      (picked_among greatest_of (neg top) (λ x y. T (le y x)) (λ x y z a b. float_le_trans z y x b a) greatest_one greatest_over (unfold neg in tt) greatest_first starts ends n h)

  module _ (i : ℕ) (l : i < suc n) where
    pub lowest_below : T (le (lowest starts ends (suc n)) (get_or starts i nan)) × T (le (lowest starts ends (suc n)) (get_or ends i nan))
    unfolding lowest
    lowest_below = subst (λ (x : Float). T (le (picked least_of x starts ends (suc n)) (get_or starts i nan)) × T (le (picked least_of x starts ends (suc n)) (get_or ends i nan))) (sym top_is) (picked_before least_of top (λ x y. T (le x y)) float_le_trans least_one least_under tt least_first starts ends (suc n) h i l)

    pub highest_above : T (le (get_or starts i nan) (highest starts ends (suc n))) × T (le (get_or ends i nan) (highest starts ends (suc n)))
    unfolding highest
    highest_above =
        subst (λ (x : Float). T (le (get_or starts i nan) (picked greatest_of x starts ends (suc n))) × T (le (get_or ends i nan) (picked greatest_of x starts ends (suc n)))) (sym bottom_is)
        (picked_before greatest_of (neg top) (λ x y. T (le y x)) (λ x y z a b. float_le_trans z y x b a) greatest_one greatest_over (unfold neg in tt) greatest_first starts ends (suc n) h i l)

-- ---- how far they are apart

-- from 0 (-0 is as good) to 2e9
pub record Spans (w : Float) : Type 0 where
  pub fine : T (finite w)
  pub above : T (le nought w)
  pub below : T (le w 2e9)

between : (w : Float) → T (le nought w) → T (le w 2e9) → T (finite w)
unfolding le
between nan a b = absurd a
between (inf true) a b = absurd a
between (inf false) a b = absurd b
between (fin s m e) a b = tt

-- v - v is 0
nothing_left : (v : Float) → T (finite v) → T (le nought (add binary64 v (neg v)))
unfolding add neg
nothing_left nan t = absurd t
nothing_left (inf s) t = absurd t
nothing_left (fin s m e) t = go s
  where
    C+ : 0 < down e * down e
    C+ = mul-pos (down_pos e) (down_pos e)

    not_under : (b : Bool) → (T b → m * up e * down e < m * up e * down e) → b ≡ false
    not_under true k = absurd (lt_irrefl (m * up e * down e) (k tt))
    not_under false k = refl

    irr : ltb (m * up e * down e) (m * up e * down e) ≡ false
    irr = not_under (ltb (m * up e * down e) (m * up e * down e)) (ltb→lt (m * up e * down e) (m * up e * down e))

    go : (s : Bool) → T (le nought (sum binary64 s (m * up e * down e) (not s) (m * up e * down e) (down e * down e)))
    go true = unfold sum in rw irr (zero_le binary64 (m * up e * down e - m * up e * down e) (down e * down e) C+)
    go false = unfold sum in rw irr (zero_le binary64 (m * up e * down e - m * up e * down e) (down e * down e) C+)

pub difference : (lo hi : Float) → Coordinate lo → Coordinate hi → T (le lo hi) → Spans (sub binary64 hi lo)
unfolding sub
difference lo hi p q h =
    let f = neg_finite lo p.fine in
    let a : T (le nought (add binary64 hi (neg lo))) = float_le_trans nought (add binary64 lo (neg lo)) (add binary64 hi (neg lo)) (nothing_left lo p.fine) (add_mono binary64 lo hi (neg lo) f h) in
    let b : T (le (add binary64 hi (neg lo)) 2e9) =
    float_le_trans (add binary64 hi (neg lo)) (add binary64 1e9 (neg lo)) 2e9 (add_mono binary64 hi 1e9 (neg lo) f q.below)
    (rw (add_swap binary64 1e9 (neg lo)) (unfold add in add_mono binary64 (neg lo) 1e9 1e9 tt (unfold neg in le_neg (neg 1e9) lo p.above))) in
    record { fine = between (add binary64 hi (neg lo)) a b; above = a; below = b }

pub reach_spans : (starts ends : List Float) (n : ℕ) → Lie starts ends (suc n) → Spans (reach starts ends (suc n))
unfolding reach
reach_spans starts ends n h =
    let lo = lowest starts ends (suc n) in
    let hi = highest starts ends (suc n) in
    difference lo hi (coordinate_says lo (lowest_obeys starts ends n h)) (coordinate_says hi (highest_obeys starts ends n h))
    (float_le_trans lo (get_or starts 0 nan) hi (lowest_below starts ends n h 0 (omega arith)).0 (highest_above starts ends n h 0 (omega arith)).0)
