-- What the private functions of the owner search promise. Definitions only.
use Rattle.std.specs.Prelude.{Ok, ◌≡◌, ℕ, suc, ◌*◌, ◌<◌, ◌≤◌, true, false, ◌⊎◌, List, length, Float}
use Rattle.std.specs.Float.Ieee.{lt}
use Rattle.grid.specs.declared.Axis.{Axis}
use Rattle.grid.specs.declared.Grid.{Grid}
use Rattle.grid.specs.Axes.{x_axis, y_axis, high_on}
use Rattle.grid.specs.Domain.{fit}
use Rattle.own.specs.Owner.{Searchable}
use Rattle.own.specs.Many.{points_check}

-- the indexes left: p has reached the high edge of all before them, and is below that of the last of them, unless the axis ends there
pub record HalvedRange (a : Axis) (p : Float) (low high : ℕ) : Type 0 where
  pub order : low ≤ high
  pub inside : high < a.count
  pub passed : (j : ℕ) → j < low → lt p (high_on a j) ≡ false
  pub ahead : (suc high ≡ a.count) ⊎ (lt p (high_on a high) ≡ true)

-- what a search on a grid asks of it and of the point, so that a cell's number is no large one
pub record PointAskable (g : Grid) (x y : Float) : Type 0 where
  pub across : Searchable (x_axis g) x
  pub up : Searchable (y_axis g) y
  pub few : g.rows * g.cols ≤ 1002001

-- all that the checks of many points find: the grid and every point are fit, and the slices have one length
pub record PointsChecked (g : Grid) (xs ys : List Float) (answers : List ℕ) : Type 0 where
  pub fits : fit g ≡ true
  pub points : points_check xs ys ≡ Ok tt
  pub alike : length ys ≡ length xs
  pub room : length answers ≡ length xs
