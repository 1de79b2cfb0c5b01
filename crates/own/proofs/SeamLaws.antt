-- A point between the ends of the grid has no owner exactly where, on some axis, it lies between the high edge of an index and the low edge of
-- the next, which rounding parted. Assumes nothing.
use Rattle.std.specs.Prelude.{Ok, Some, None, Option}
use Rattle.std.proofs.Common.{◌≡◌, ℕ, zero, suc, ◌+◌, ◌-◌, ◌<◌, Bool, true, false, ◌&&◌, ◌||◌, T, eqb, ltb, ◌⊎◌, sym, refl, ap, ◌∙◌, subst, inl, inr, ⊎_elim, true≢false, arith, ltb-false, ltb-true, eq-eqb}
use lib.Ieee.{Float, lt, le, eq}
use lib.Ieee.Bits.{is_true}
use Rattle.grid.specs.declared.Grid.{Grid}
use Rattle.grid.specs.declared.Axis.{Axis}
use Rattle.grid.specs.Axes.{x_axis, y_axis, low_on, high_on}
use Rattle.grid.proofs.Floats.{coordinate_number}
use Rattle.grid.proofs.Bools.{and_off}
use Rattle.numbers.proofs.FloatOrder.{at_most, not_under}
use Rattle.own.specs.Own.{owns_on, owns_point, point_on_grid_check}
use Rattle.own.specs.Owner.{first_owning, Searchable}
use Rattle.own.specs.Cases.{Nobody, WithinGrid, Parted, InGap}
use Rattle.own.proofs.Edges.{high_number, over_before, under_after}
use Rattle.own.proofs.Firsts.{NonePasses, none_first, at_first}
use Rattle.own.proofs.Halving.{behind, under}
use Rattle.own.proofs.Owners.{searchable}

-- ---- the test as Bools: l is "low <= p", t is "p < high", n is "the last index" and e is "p = high"

not_below : (l t n e : Bool) → l ≡ true → (l && (t || (n && e))) ≡ false → t ≡ false
not_below l true n e h k = absurd (true≢false (sym (rw h) ∙ k))
not_below l false n e h k = refl

not_at_last : (l t n e : Bool) → l ≡ true → n ≡ true → (l && (t || (n && e))) ≡ false → (t || e) ≡ false
not_at_last l t n e h m k = sym (rw (h, m)) ∙ k

-- ---- one axis

module _ (a : Axis) (p : Float) (asks : Searchable a p) (last : le p (high_on a (a.count - 1)) ≡ true) (none : NonePasses (λ i. owns_on a i p) 0 a.count) where
  -- from an index whose low edge p has reached, up to the last
  gap : (left i : ℕ) → i + suc left ≡ a.count → le (low_on a i) p ≡ true → InGap a p
  unfolding owns_on le
  gap zero i n l =
      let same : a.count - 1 ≡ i = omega arith in
      absurd (true≢false (sym (rw same at last) ∙ not_at_last (le (low_on a i) p) (lt p (high_on a i)) (eqb (suc i) a.count) (eq p (high_on a i)) l (eq-eqb (suc i) a.count (omega arith)) (none i (omega arith) (omega arith))))
  gap (suc left) i n l = go (le (low_on a (suc i)) p) refl (λ h. gap left (suc i) (omega arith) h)
    where
      over : le (high_on a i) p ≡ true
      over =
          is_true (le (high_on a i) p)
          (at_most (high_on a i) p (high_number a asks.low asks.size i (omega (arith, asks.few))) (coordinate_number p asks.point)
          (not_below (le (low_on a i) p) (lt p (high_on a i)) (eqb (suc i) a.count) (eq p (high_on a i)) l (none i (omega arith) (omega arith))))

      go : (b : Bool) → le (low_on a (suc i)) p ≡ b → (le (low_on a (suc i)) p ≡ true → InGap a p) → InGap a p
      go true e later = later e
      go false e later = (i, record { inside = omega arith; past = over; short = e })

-- ---- and back: nobody owns what lies between two neighbours

module _ (a : Axis) (p : Float) (asks : Searchable a p) (i : ℕ) (h : Parted a p i) where
  reached : lt p (high_on a i) ≡ false
  reached = not_under (high_on a i) p (subst T (sym h.past) tt)

  pub no_index : (j : ℕ) → j < a.count → owns_on a j p ≡ false
  no_index j l = go (ltb i j) refl
    where
      inside : suc i < a.count
      inside = h.inside

      go : (b : Bool) → ltb i j ≡ b → owns_on a j p ≡ false
      go true e = let m = ltb-true i j e in under a p asks j (under_after a asks.low asks.size p (suc i) j (omega arith) (omega (arith, asks.few)) h.short)
      go false e = let m = ltb-false i j e in behind a p asks j (omega (arith, inside)) (over_before a asks.low asks.size p j i asks.point (omega arith) (omega (arith, inside, asks.few)) reached)

-- ---- the grid

pub between_neighbours : (g : Grid) (x y : Float) → point_on_grid_check g x y ≡ Ok tt → Nobody g x y → WithinGrid g x y → InGap (x_axis g) x ⊎ InGap (y_axis g) y
unfolding first_owning owns_point
between_neighbours g x y fine nobody ends = by_column (first_owning (x_axis g) x) refl
  where
    columns : Searchable (x_axis g) x
    columns = (searchable g x y fine).0

    rows : Searchable (y_axis g) y
    rows = (searchable g x y fine).1

    by_row : (c : ℕ) → first_owning (x_axis g) x ≡ Some c → (f : (Option ℕ)) → first_owning (y_axis g) y ≡ f → InGap (x_axis g) x ⊎ InGap (y_axis g) y
    by_row c h None k =
        inr (gap (y_axis g) y rows ends.above (none_first (λ i. owns_on (y_axis g) i y) g.rows k) (g.rows - 1) 0 (omega (arith, ends.rows)) ends.below)
    by_row c h (Some r) k =
        let u = at_first (λ i. owns_on (x_axis g) i x) g.cols c h in
        let v = at_first (λ i. owns_on (y_axis g) i y) g.rows r k in
        absurd (true≢false (sym (rw (u.passes, v.passes)) ∙ nobody r c v.within u.within))

    by_column : (f : (Option ℕ)) → first_owning (x_axis g) x ≡ f → InGap (x_axis g) x ⊎ InGap (y_axis g) y
    by_column None h =
        inl (gap (x_axis g) x columns ends.right (none_first (λ i. owns_on (x_axis g) i x) g.cols h) (g.cols - 1) 0 (omega (arith, ends.cols)) ends.left)
    by_column (Some c) h = by_row c h (first_owning (y_axis g) y) refl

pub nobody_between : (g : Grid) (x y : Float) → point_on_grid_check g x y ≡ Ok tt → InGap (x_axis g) x ⊎ InGap (y_axis g) y → Nobody g x y
unfolding owns_point
nobody_between g x y fine gaps row col l m =
    ⊎_elim (λ (h : InGap (x_axis g) x). ap (λ (b : Bool). b && owns_on (y_axis g) row y) (no_index (x_axis g) x (searchable g x y fine).0 h.0 h.1 col m))
    (λ (h : InGap (y_axis g) y). and_off (owns_on (x_axis g) col x) (owns_on (y_axis g) row y) (no_index (y_axis g) y (searchable g x y fine).1 h.0 h.1 row l))
    gaps
