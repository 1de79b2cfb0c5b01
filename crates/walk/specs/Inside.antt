-- What the private functions of a walk promise to one another. Definitions only.
use Rattle.std.specs.Prelude.{◌≡◌, Bool, cond, List, ◌++◌, ℕ, ◌+◌, ◌-◌, ◌*◌, ◌%◌, ◌≤◌, ◌<◌, length, take, eqb}
use Rattle.slices.specs.Lists.{any, Below}
use Rattle.grid.specs.declared.Grid.{Grid}
use Rattle.grid.specs.declared.Segment.{Segment}
use Rattle.grid.specs.declared.Side.TheVariants.{Off}
use Rattle.grid.specs.Axes.{x_axis, y_axis, side_on}
use Rattle.walk.specs.declared.Mode.{Mode}
use Rattle.walk.specs.declared.Neighbour.{Neighbour}
use Rattle.walk.specs.declared.Neighbour.TheVariants.{None, Lower, Upper}
use Rattle.walk.specs.Neighbours.{along_on}

-- ys has `more` after the first n of xs, but that cells may stand in another order, and more or less often, r of them, at most b more than n: each test finds
-- the same
pub record Covers (xs ys : List ℕ) (n r b : ℕ) (more : List ℕ) : Type 0 where
  pub len : length ys ≡ length xs
  pub count : r ≤ n + b
  pub within : r ≤ length ys
  pub same : (f : ℕ → Bool) → any f (take r ys) ≡ any f (take n xs ++ more)

-- the first r of s are just these cells, in some order, how often ever
pub record Complete (s : List ℕ) (r : ℕ) (cells : List ℕ) : Type 0 where
  pub within : r ≤ length s
  pub same : (f : ℕ → Bool) → any f (take r s) ≡ any f cells

-- so many columns, and a number that is at most the number of cells, both of a fit grid: what is near is within 32 bits
pub record Within (cols c : ℕ) : Type 0 where
  pub some : 0 < cols
  pub wide : cols ≤ 4004
  pub low : c ≤ 1002001

-- cells of a grid of so many columns and cells
pub record AllWithin (cols cells : ℕ) (l : List ℕ) : Type 0 where
  pub most : Within cols cells
  pub inside : Below cells l

-- the cell beside c in the lower column, and c itself where there is none
unfoldable pub lower_of : ℕ → ℕ → ℕ
lower_of cols c = cond (eqb (c % cols) 0) c (c - 1)

-- how many cells a neighbour is
unfoldable pub many_of : Neighbour → ℕ
many_of None = 0
many_of Lower = 1
many_of Upper = 1

-- how many cells a cell adds at most: in x, in y, and in the corner
unfoldable pub share : Neighbour → Neighbour → ℕ
share x y = many_of x + many_of y + many_of x * many_of y

-- how many cells the line adds at most to each that it walks
unfoldable pub share_of : Mode → Grid → Segment → ℕ
share_of mode g line =
    share (along_on mode (x_axis g) line.start_x line.end_x) (along_on mode (y_axis g) line.start_y line.end_y)

-- no coordinate of the line is on a boundary
pub record Clear (g : Grid) (line : Segment) : Type 0 where
  pub start_x : side_on (x_axis g) line.start_x ≡ Off
  pub start_y : side_on (y_axis g) line.start_y ≡ Off
  pub end_x : side_on (x_axis g) line.end_x ≡ Off
  pub end_y : side_on (y_axis g) line.end_y ≡ Off
