-- Document 01, "Ownership and snapping": the owner of a point is the first cell in row order that owns it. Document 02, 5: a point that no
-- cell owns is in a seam, if it lies between the ends of the grid, else outside. Definitions only.
use Rattle.refusals.specs.declared.Refusal.{Refusal}
use Rattle.std.specs.Prelude.{Ok, Err, Some, None, Result, Option, ◌≡◌, ℕ, zero, suc, ◌*◌, ◌/◌, ◌%◌, ◌≤◌, Bool, true, false, cond, ◌&&◌, Float}
use Rattle.std.specs.Float.Ieee.{le}
use Rattle.refusals.specs.Refusals.{gives, ◌then◌, answer_by}
use Rattle.grid.specs.declared.Grid.{Grid}
use Rattle.grid.specs.declared.Axis.{Axis}
use Rattle.grid.specs.Axes.{x_axis, y_axis, low_on, high_on}
use Rattle.grid.specs.Domain.{coordinate, size_fits}
use Rattle.own.specs.declared.Owner.{Owner}
use Rattle.own.specs.declared.Owner.TheVariants.{Cell, Seam, Outside}
use Rattle.own.specs.Own.{owns_on, owns_point, point_on_grid_check}

-- the first of the `left` numbers from k on that passes a test
abbrev pub or_else : Bool → ℕ → (Option ℕ) → Option ℕ
or_else true k rest = Some k
or_else false k rest = rest

unfoldable pub first_from : (ℕ → Bool) → ℕ → ℕ → Option ℕ
first_from test zero k = None
first_from test (suc left) k = or_else (test k) k (first_from test left (suc k))

-- the first index of an axis that owns p
unfoldable pub first_owning : Axis → Float → Option ℕ
unfolding first_from
first_owning a p = first_from (λ i. owns_on a i p) a.count 0

-- what the search along an axis asks: that of a fit grid, and a coordinate
pub record Searchable (a : Axis) (p : Float) : Type 0 where
  pub low : coordinate a.low ≡ true
  pub size : size_fits a.size ≡ true
  pub few : a.count ≤ 4004
  pub point : coordinate p ≡ true

-- ---- where no cell owns the point

-- p lies between the low edge of the first and the high edge of the last of so many indexes, ends included; of none it lies nowhere
abbrev pub between_edges : Axis → ℕ → Float → Bool
between_edges a zero p = false
between_edges a (suc last) p = le (low_on a 0) p && le p (high_on a last)

unfoldable pub spans : Axis → Float → Bool
spans a p = between_edges a a.count p

-- a seam, if that holds of the columns and of the rows; outside otherwise, and always on a 0 by 0 grid
unfoldable pub seam_or_outside : Grid → Float → Float → Owner
seam_or_outside g x y = cond (spans (x_axis g) x && spans (y_axis g) y) Seam Outside

-- ---- the owner

-- in row order cell k is the column k % cols of the row k / cols
abbrev pub owner_cell : ℕ → Owner → (Option ℕ) → Owner
owner_cell cols none (Some k) = Cell (k / cols) (k % cols)
owner_cell cols none None = none

-- the first cell that owns the point
unfoldable pub owner_of : Grid → Float → Float → Owner
unfolding first_from
owner_of g x y = owner_cell g.cols (seam_or_outside g x y) (first_from (λ k. owns_point g (k / g.cols) (k % g.cols) x y) (g.rows * g.cols) 0)

-- after refusals 1 and 8
unfoldable pub owner_answer : Grid → Float → Float → Result Owner Refusal
owner_answer g x y = answer_by Err Ok (point_on_grid_check g x y then gives (owner_of g x y))
