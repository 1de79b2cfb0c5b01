-- Document 02, 5: the three answers of the owner search, each by what holds of the point. That one of them holds of every point, and only one,
-- is proved in `own/proofs/ThreeCases.antt`. Definitions only.
use Rattle.std.specs.Prelude.{◌≡◌, ℕ, suc, ◌+◌, ◌-◌, ◌*◌, ◌<◌, true, false, Float}
use Rattle.std.specs.Float.Ieee.{le}
use Rattle.grid.specs.declared.Grid.{Grid}
use Rattle.grid.specs.declared.Axis.{Axis}
use Rattle.grid.specs.Axes.{x_axis, y_axis, low_on, high_on}
use Rattle.own.specs.declared.Owner.{Owner}
use Rattle.own.specs.declared.Owner.TheVariants.{Cell, Seam, Outside}
use Rattle.own.specs.Own.{owns_point}

-- the cell owns the point, and none before it in row order does
pub record FirstOwner (g : Grid) (x y : Float) (row col : ℕ) : Type 0 where
  pub in_row : row < g.rows
  pub in_col : col < g.cols
  pub owns : owns_point g row col x y ≡ true
  pub first : (r c : ℕ) → c < g.cols → r * g.cols + c < row * g.cols + col → owns_point g r c x y ≡ false

-- no cell owns the point
abbrev pub Nobody : Grid → Float → Float → Type 0
Nobody g x y = (row col : ℕ) → row < g.rows → col < g.cols → owns_point g row col x y ≡ false

-- it lies between the low edge of the first and the high edge of the last column and row, ends included; a 0 by 0 grid has none
pub record WithinGrid (g : Grid) (x y : Float) : Type 0 where
  pub cols : 0 < g.cols
  pub rows : 0 < g.rows
  pub left : le (low_on (x_axis g) 0) x ≡ true
  pub right : le x (high_on (x_axis g) (g.cols - 1)) ≡ true
  pub below : le (low_on (y_axis g) 0) y ≡ true
  pub above : le y (high_on (y_axis g) (g.rows - 1)) ≡ true

-- what parts two neighbours on an axis: p has reached the high edge of index i, and not the low edge of the next
pub record Parted (a : Axis) (p : Float) (i : ℕ) : Type 0 where
  pub inside : suc i < a.count
  pub past : le (high_on a i) p ≡ true
  pub short : le (low_on a (suc i)) p ≡ false

-- p lies between some two neighbours
abbrev pub InGap : Axis → Float → Type 0
InGap a p = (i : ℕ) × Parted a p i

-- what holds of a point that has this answer
abbrev pub Case : Grid → Float → Float → Owner → Type 0
Case g x y (Cell row col) = FirstOwner g x y row col
Case g x y Seam = Nobody g x y × WithinGrid g x y
Case g x y Outside = Nobody g x y × (WithinGrid g x y → ⊥)
