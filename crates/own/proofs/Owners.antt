-- The owner of a point, from the first column and the first row that own it, and what the checks say for their search. Assumes nothing.
use Rattle.std.specs.Prelude.{Ok, Some, None, Option}
use Rattle.std.proofs.Common.{◌≡◌, ℕ, ◌+◌, ◌*◌, ◌/◌, ◌%◌, Bool, true, false, cond, ◌&&◌, sym, refl, ap, ◌∙◌, ap₂}
use lib.Ieee.{Float}
use Rattle.refusals.proofs.Checks.{unless_fine, and_then_left, and_then_right}
use Rattle.grid.specs.declared.Grid.{Grid}
use Rattle.grid.specs.declared.Axis.{Axis}
use Rattle.grid.specs.Axes.{x_axis, y_axis}
use Rattle.grid.specs.Domain.{coordinate, point, fit, point_check, grid_check}
use Rattle.grid.proofs.Bools.{and_left, and_right}
use Rattle.grid.proofs.Shapes.{fit_says}
use Rattle.own.specs.declared.Owner.TheVariants.{Cell, Seam, Outside}
use Rattle.own.specs.Own.{owns_on, owns_point, point_on_grid_check}
use Rattle.own.specs.Owner.{first_owning, Searchable, spans, seam_or_outside, owner_cell, owner_of}
use Rattle.own.proofs.Firsts.{first_at, first_none, at_first, none_first, no_column, no_row, column_is, row_is, first_cell}

-- what the search asks, and what it answers, on an axis that was read off the grid
pub asked : (a a' : Axis) (p : Float) → a ≡ a' → Searchable a' p → Searchable a p
asked a a' p d h = rw d h

pub answered : (a a' : Axis) (p : Float) (f v : (Option ℕ)) → f ≡ first_owning a p → a ≡ a' → f ≡ v → first_owning a' p ≡ v
answered a a' p f v e d h = sym (ap (λ (b : Axis). first_owning b p) d) ∙ sym e ∙ h

module _ (g : Grid) (x y : Float) where
  column : ℕ → Bool
  column i = owns_on (x_axis g) i x

  row : ℕ → Bool
  row j = owns_on (y_axis g) j y

  cell : ℕ → Bool
  cell k = owns_point g (k / g.cols) (k % g.cols) x y

  pub no_column_owns : first_owning (x_axis g) x ≡ None → seam_or_outside g x y ≡ owner_of g x y
  unfolding first_owning owner_of owns_point column row cell
  no_column_owns h = sym (ap (owner_cell g.cols (seam_or_outside g x y)) (first_none cell (g.rows * g.cols) (no_column column row g.cols g.rows (none_first column g.cols h))))

  pub no_row_owns : first_owning (y_axis g) y ≡ None → seam_or_outside g x y ≡ owner_of g x y
  unfolding first_owning owner_of owns_point column row cell
  no_row_owns h = sym (ap (owner_cell g.cols (seam_or_outside g x y)) (first_none cell (g.rows * g.cols) (no_row column row g.cols g.rows (none_first row g.rows h))))

  pub both_own : (c r : ℕ) → first_owning (x_axis g) x ≡ Some c → first_owning (y_axis g) y ≡ Some r → Cell r c ≡ owner_of g x y
  unfolding first_owning owner_of owns_point column row cell
  both_own c r h k =
      let a = at_first column g.cols c h in
      let b = at_first row g.rows r k in
      let n = g.cols in
      sym (ap (owner_cell n (seam_or_outside g x y)) (first_at cell (g.rows * n) (r * n + c) (first_cell column row n g.rows c r a b))
      ∙ ap₂ Cell (row_is column row n g.rows c r a b) (column_is column row n g.rows c r a b))

  -- on axes that were read off the grid
  pub cell_of : (ax ay : Axis) (c r : ℕ) → ax ≡ x_axis g → ay ≡ y_axis g → Some c ≡ first_owning ax x → Some r ≡ first_owning ay y → Cell r c ≡ owner_of g x y
  cell_of ax ay c r d k h j = both_own c r (answered ax (x_axis g) x (Some c) (Some c) h d refl) (answered ay (y_axis g) y (Some r) (Some r) j k refl)

  -- ---- where no cell owns it: u and v are what the two axes answer

  module _ (ax ay : Axis) (u v : Bool) (e : u ≡ spans ax x) (d : ax ≡ x_axis g) (f : v ≡ spans ay y) (k : ay ≡ y_axis g) where
    spanned : cond (u && v) Seam Outside ≡ seam_or_outside g x y
    unfolding seam_or_outside
    spanned = rw (e, d, f, k)

    pub in_seam : u ≡ true → v ≡ true → Seam ≡ seam_or_outside g x y
    in_seam s t = rw (s, t) at spanned

    pub out_across : u ≡ false → Outside ≡ seam_or_outside g x y
    out_across s = rw s at spanned

    pub out_up : u ≡ true → v ≡ false → Outside ≡ seam_or_outside g x y
    out_up s t = rw (s, t) at spanned

-- ---- what the checks say of the two axes

pub searchable : (g : Grid) (x y : Float) → point_on_grid_check g x y ≡ Ok tt → Searchable (x_axis g) x × Searchable (y_axis g) y
unfolding point_on_grid_check point_check grid_check point
searchable g x y h =
    let xy = unless_fine (coordinate x && coordinate y) 1 0 (and_then_left _ _ h) in
    let fits = fit_says g (unless_fine (fit g) 8 0 (and_then_right _ _ h)) in (
      record { low = fits.«min_x»; size = fits.«cell-width»; few = fits.counts.wide; point = and_left (coordinate x) (coordinate y) xy },
      record { low = fits.«min_y»; size = fits.«cell-height»; few = fits.counts.high; point = and_right (coordinate x) (coordinate y) xy },
    )
