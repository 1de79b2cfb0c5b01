-- The search for the first index of an axis that owns p: it halves the indexes from `low` to `high`, among which is the first with
-- p < high edge, or else the last. That index is the first owner, if it owns p; else there is none. Assumes nothing.
use Rattle.std.specs.Prelude.{Some, None}
use Rattle.std.proofs.Common.{◌≡◌, ℕ, suc, ◌+◌, ◌-◌, ◌<◌, ◌≤◌, Bool, true, false, ◌&&◌, ◌||◌, eqb, ltb, sym, refl, ap, ◌∙◌, subst, inl, inr, ⊎_elim, arith, ltb-false, ltb-true, ne_eqb, eqb-true}
use borrow.Author.Tests.{eqb-false}
use lib.Ieee.{Float, lt, le, eq}
use Rattle.grid.specs.declared.Axis.{Axis}
use Rattle.grid.specs.Axes.{low_on, high_on}
use Rattle.own.specs.Own.{owns_on}
use Rattle.own.specs.Owner.{first_from, first_owning, Searchable}
use Rattle.own.specs.Inside.{HalvedRange}
use Rattle.own.proofs.Edges.{over_before, under_after}
use Rattle.own.proofs.Firsts.{NonePasses, first_at, first_none}

-- ---- the test as Bools: l is "low <= p", t is "p < high", n is "the last index" and e is "p = high"

not_past : (l t n e : Bool) → t ≡ false → n ≡ false → (l && (t || (n && e))) ≡ false
not_past true t n e h k = rw (h, k)
not_past false t n e h k = refl

not_low : (l t n : Bool) → t ≡ true → (l && (t || n)) ≡ false → l ≡ false
not_low true t n h k = rw h at k
not_low false t n h k = refl

-- ---- the search

pub empty_axis : (a : Axis) (p : Float) → a.count ≡ 0 → None ≡ first_owning a p
unfolding first_owning first_from
empty_axis a p h = rw h

module _ (a : Axis) (p : Float) (asks : Searchable a p) where
  pub whole_axis : 0 < a.count → HalvedRange a p 0 (a.count - 1)
  whole_axis h = record { order = omega arith; inside = omega arith; passed = λ j l. absurd (omega arith); ahead = inl (omega arith) }

  -- `edge` is the high edge of an index in between
  module _ (low high mid : ℕ) (h : HalvedRange a p low high) (from : low ≤ mid) (to : mid < high) (edge : Float) (is : edge ≡ high_on a mid) where
    pub lower_half : lt p edge ≡ true → HalvedRange a p low mid
    lower_half t = record { order = from; inside = omega (arith, h.inside); passed = h.passed; ahead = inr (rw is at t) }

    pub upper_half : lt p edge ≡ false → HalvedRange a p (mid + 1) high
    upper_half t = record {
      order = omega arith;
      inside = h.inside;
      passed = λ j l. over_before a asks.low asks.size p j mid asks.point (omega arith) (omega (arith, h.inside, asks.few)) (rw is at t);
      ahead = h.ahead;
    }

  -- ---- at the end

  abbrev owns : ℕ → Bool
  owns i = owns_on a i p

  -- an index before the last whose high edge p has reached does not own it
  pub behind : (j : ℕ) → suc j < a.count → lt p (high_on a j) ≡ false → owns j ≡ false
  unfolding owns_on
  behind j l t = not_past (le (low_on a j) p) (lt p (high_on a j)) (eqb (suc j) a.count) (eq p (high_on a j)) t (ne_eqb (suc j) a.count (λ e. omega arith))

  -- an index whose low edge p is under does not own it
  pub under : (j : ℕ) → le (low_on a j) p ≡ false → owns j ≡ false
  unfolding owns_on
  under j t = rw t

  -- where p is below the high edge, only the low edge can fail
  only_low : (i : ℕ) → lt p (high_on a i) ≡ true → owns i ≡ false → le (low_on a i) p ≡ false
  unfolding owns_on
  only_low i t h = not_low (le (low_on a i) p) (lt p (high_on a i)) _ t h

  -- an index that owns p, where p has reached the high edge before it
  pub at_guess : (i : ℕ) → 0 < i → i < a.count → (edge : Float) → edge ≡ high_on a (i - 1) → lt p edge ≡ false → true ≡ owns i → Some i ≡ first_owning a p
  unfolding first_owning
  at_guess i some within edge is t o = sym (first_at owns a.count i (record { from = omega arith; within = within; passes = sym o; before = before }))
    where
      reached : lt p (high_on a (i - 1)) ≡ false
      reached = subst (λ (e : Float). lt p e ≡ false) is t

      before : NonePasses owns 0 i
      before j u l = behind j (omega arith) (over_before a asks.low asks.size p j (i - 1) asks.point (omega arith) (omega (arith, asks.few)) reached)

  module _ (i high : ℕ) (h : HalvedRange a p i high) (met : high ≤ i) where
    inside : i < a.count
    inside = omega (arith, h.order, h.inside)

    before : NonePasses owns 0 i
    before j u l = behind j (omega (arith, inside)) (h.passed j l)

    pub found : true ≡ owns_on a i p → Some i ≡ first_owning a p
    unfolding first_owning
    found t = sym (first_at owns a.count i (record { from = omega arith; within = inside; passes = sym t; before = before }))

    same : high ≡ i
    same = omega (arith, h.order, met)

    after : owns i ≡ false → (j : ℕ) → i < j → j < a.count → owns j ≡ false
    after f j l m =
        ⊎_elim (λ (e : suc high ≡ a.count). absurd (omega (arith, same)))
        (λ (t : lt p (high_on a high) ≡ true). under j (under_after a asks.low asks.size p i j (omega arith) (omega (arith, asks.few)) (only_low i (ap (λ (n : ℕ). lt p (high_on a n)) (sym same) ∙ t) f)))
        h.ahead

    pub nowhere : false ≡ owns_on a i p → None ≡ first_owning a p
    unfolding first_owning
    nowhere f = sym (first_none owns a.count (λ j u m. each j m (ltb j i) (eqb j i) refl refl))
      where
        each : (j : ℕ) → j < a.count → (b e : Bool) → ltb j i ≡ b → eqb j i ≡ e → owns j ≡ false
        each j m true e p q = before j (omega arith) (ltb-true j i p)
        each j m false true p q = ap owns (eqb-true j i q) ∙ sym f
        each j m false false p q = let n = eqb-false j i q in after (sym f) j (omega (arith, ltb-false j i p)) m
