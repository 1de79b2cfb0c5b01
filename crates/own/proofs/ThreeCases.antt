-- The three answers of the owner search leave no point out and exclude each other: what the search answers holds of the point, and nothing else
-- does. Assumes nothing.
use Rattle.std.specs.Prelude.{Some, None, Option}
use Rattle.std.proofs.Common.{◌≡◌, ℕ, zero, suc, ◌+◌, ◌-◌, ◌*◌, ◌/◌, ◌%◌, ◌<◌, Bool, true, false, cond, ◌&&◌, sym, refl, ap, ◌∙◌, ap₂, true≢false, mod-lt, div-lt_iff_lt-mul, div-add-mod', arith}
use lib.Ieee.{Float, le}
use Rattle.grid.specs.declared.Grid.{Grid}
use Rattle.grid.specs.declared.Axis.{Axis}
use Rattle.grid.specs.Axes.{x_axis, y_axis, low_on, high_on}
use Rattle.grid.proofs.Bools.{and_left, and_right}
use Rattle.grid.proofs.Shapes.{cell_inside, col_of, row_of_lem}
use Rattle.own.specs.declared.Owner.{Owner}
use Rattle.own.specs.declared.Owner.TheVariants.{Cell, Seam, Outside}
use Rattle.own.specs.Own.{owns_point}
use Rattle.own.specs.Owner.{first_from, spans, seam_or_outside, owner_cell, owner_of}
use Rattle.own.specs.Cases.{FirstOwner, Nobody, WithinGrid, Case}
use Rattle.own.proofs.Firsts.{First, NonePasses, first_at, first_none, at_first, none_first}
use Rattle.own.proofs.EndLaws.{no_ends, two_ends}

-- ---- a cell by its number in row order

some_of : (rows cols k : ℕ) → k < rows * cols → 0 < cols
some_of rows zero k h = absurd (omega arith)
some_of rows (suc n) k h = omega arith

module _ (g : Grid) (x y : Float) where
  cell : ℕ → Bool
  cell k = owns_point g (k / g.cols) (k % g.cols) x y

  cell_at : (r c : ℕ) → c < g.cols → cell (r * g.cols + c) ≡ owns_point g r c x y
  unfolding cell
  cell_at r c h = ap₂ (λ (i j : ℕ). owns_point g i j x y) (row_of_lem g.cols r c h) (col_of g.cols r c h)

  -- ---- the search and the facts

  first_owner : (k : ℕ) → First cell 0 (g.rows * g.cols) k → FirstOwner g x y (k / g.cols) (k % g.cols)
  unfolding cell
  first_owner k h =
      let some = some_of g.rows g.cols k h.within in
      let m = div-add-mod' k g.cols in
      record {
        in_row = (div-lt_iff_lt-mul some).1 h.within;
        in_col = mod-lt k some;
        owns = h.passes;
        first = λ r c l n. sym (cell_at r c l) ∙ h.before (r * g.cols + c) (omega arith) (omega arith);
      }

  owner_first : (row col : ℕ) → FirstOwner g x y row col → First cell 0 (g.rows * g.cols) (row * g.cols + col)
  unfolding cell
  owner_first row col h = record {
    from = omega arith;
    within = cell_inside g.rows g.cols row col h.in_row h.in_col;
    passes = cell_at row col h.in_col ∙ h.owns;
    before = λ j l m.
        let e = div-add-mod' j g.cols in
        h.first (j / g.cols) (j % g.cols) (mod-lt j (omega (arith, h.in_col))) (omega arith);
  }

  nobody : NonePasses cell 0 (g.rows * g.cols) → Nobody g x y
  nobody h row col l m = sym (cell_at row col m) ∙ h (row * g.cols + col) (omega arith) (cell_inside g.rows g.cols row col l m)

  none : Nobody g x y → NonePasses cell 0 (g.rows * g.cols)
  unfolding cell
  none h k l m =
      let some = some_of g.rows g.cols k m in
      h (k / g.cols) (k % g.cols) ((div-lt_iff_lt-mul some).1 m) (mod-lt k some)

  -- ---- the ends

  -- where both axes say so, the point lies within; and back
  spanned : Bool
  spanned = spans (x_axis g) x && spans (y_axis g) y

  some_index : (a : Axis) (p : Float) → spans a p ≡ true → 0 < a.count
  some_index a p h = go a.count refl
    where
      go : (n : ℕ) → a.count ≡ n → 0 < n
      go zero e = absurd (true≢false (sym h ∙ sym (no_ends a p e)))
      go (suc n) e = omega arith

  ends : (a : Axis) (p : Float) → spans a p ≡ true → (le (low_on a 0) p ≡ true) × (le p (high_on a (a.count - 1)) ≡ true)
  ends a p h =
      let s = some_index a p h in
      let e = sym (two_ends a p (λ e. omega arith)) ∙ h in
      (and_left (le (low_on a 0) p) (le p (high_on a (a.count - 1))) e, and_right (le (low_on a 0) p) (le p (high_on a (a.count - 1))) e)

  spans_by : (a : Axis) (p : Float) → 0 < a.count → le (low_on a 0) p ≡ true → le p (high_on a (a.count - 1)) ≡ true → spans a p ≡ true
  spans_by a p s l r = rw (two_ends a p (λ e. omega arith), l, r)

  within : spanned ≡ true → WithinGrid g x y
  unfolding spanned
  within h =
      let u = and_left (spans (x_axis g) x) (spans (y_axis g) y) h in
      let v = and_right (spans (x_axis g) x) (spans (y_axis g) y) h in
      record {
        cols = some_index (x_axis g) x u;
        rows = some_index (y_axis g) y v;
        left = (ends (x_axis g) x u).0;
        right = (ends (x_axis g) x u).1;
        below = (ends (y_axis g) y v).0;
        above = (ends (y_axis g) y v).1;
      }

  between_ends : WithinGrid g x y → spanned ≡ true
  unfolding spanned
  between_ends h =
      let u = spans_by (x_axis g) x h.cols h.left h.right in
      let v = spans_by (y_axis g) y h.rows h.below h.above in
      rw (u, v)

  -- ---- the laws

  -- no point is left out: what the search answers holds of it
  pub its_case : Case g x y (owner_of g x y)
  unfolding owner_of seam_or_outside spanned cell
  its_case = by_found (first_from cell (g.rows * g.cols) 0) refl
    where
      by_ends : (b : Bool) → spanned ≡ b → Nobody g x y → Case g x y (cond b Seam Outside)
      by_ends true e n = (n, within e)
      by_ends false e n = (n, λ w. true≢false (sym (between_ends w) ∙ e))

      by_found : (f : (Option ℕ)) → first_from cell (g.rows * g.cols) 0 ≡ f → Case g x y (owner_cell g.cols (seam_or_outside g x y) f)
      by_found (Some k) e = first_owner k (at_first cell (g.rows * g.cols) k e)
      by_found None e = by_ends spanned refl (nobody (none_first cell (g.rows * g.cols) e))

  -- what holds of it is what the search answers
  pub only_case : (o : Owner) → Case g x y o → o ≡ owner_of g x y
  unfolding owner_of seam_or_outside spanned cell
  only_case (Cell row col) h =
      let n = g.cols in
      sym (ap (owner_cell n (seam_or_outside g x y)) (first_at cell (g.rows * n) (row * n + col) (owner_first row col h))
      ∙ ap₂ Cell (row_of_lem n row col h.in_col) (col_of n row col h.in_col))
  only_case Seam h =
      sym (ap (owner_cell g.cols (seam_or_outside g x y)) (first_none cell (g.rows * g.cols) (none h.0))
      ∙ ap (λ (b : Bool). cond b Seam Outside) (between_ends h.1))
  only_case Outside h =
      sym (ap (owner_cell g.cols (seam_or_outside g x y)) (first_none cell (g.rows * g.cols) (none h.0))
      ∙ ap (λ (b : Bool). cond b Seam Outside) (not_within spanned refl))
    where
      not_within : (b : Bool) → spanned ≡ b → spanned ≡ false
      not_within true e = absurd (h.1 (within e))
      not_within false e = e

  -- the cases exclude each other
  pub exclude : (o o' : Owner) → Case g x y o → Case g x y o' → o ≡ o'
  exclude o o' h k = only_case o h ∙ sym (only_case o' k)
