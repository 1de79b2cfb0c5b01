-- An axis of a grid: columns and rows follow one rule, said here once. Each float step rounds once, in the written order. Definitions only.
use Rattle.std.specs.Prelude.{ℕ, Bool, cond, Float}
use Rattle.std.specs.Float.Ieee.{le, lt}
use Rattle.numbers.specs.Arithmetic.{◌+₆₄◌, ◌-₆₄◌, ◌*₆₄◌, ◌/₆₄◌, whole_float, decimal}
use Rattle.numbers.specs.Order.{magnitude_of}
use Rattle.numbers.specs.Floor.{clamped_floor}
use Rattle.numbers.specs.Away.{round_away}
use Rattle.grid.specs.declared.Grid.{Grid}
use Rattle.grid.specs.declared.Axis.{Axis}
use Rattle.grid.specs.declared.Side.{Side}
use Rattle.grid.specs.declared.Side.TheVariants.{Off, Above, Below}

-- the two axes of a grid: columns go by the width of a cell, rows by its height
abbrev pub x_axis : Grid → Axis
x_axis g = record { low = g.min_x; size = g.cell_width; count = g.cols }

abbrev pub y_axis : Grid → Axis
y_axis g = record { low = g.min_y; size = g.cell_height; count = g.rows }

-- (coordinate - min) / cell size, which is that of the axis
unfoldable pub scaled_on : Axis → Float → Float
scaled_on a v = (v -₆₄ a.low) /₆₄ a.size

-- the index of a coordinate: the floor of that, clamped to 0 .. count - 1
unfoldable pub index_on : Axis → Float → ℕ
index_on a v = clamped_floor (scaled_on a v) a.count

-- the boundary i, which is the low edge of index i: min + i x cell size
unfoldable pub low_on : Axis → ℕ → Float
low_on a i = a.low +₆₄ whole_float i *₆₄ a.size

-- the high edge of index i: its low edge + cell size
unfoldable pub high_on : Axis → ℕ → Float
high_on a i = low_on a i +₆₄ a.size

-- ---- boundaries

-- a value is on a boundary if it differs by at most 1e-12 from itself rounded half away from zero
unfoldable pub near_whole : Float → Bool
near_whole v = le (magnitude_of (v -₆₄ round_away v)) (decimal 1 1000000000000)

unfoldable pub boundary_on : Axis → Float → Bool
boundary_on a v = near_whole (scaled_on a v)

-- On which side of it: off, where the value is on no boundary; just below it, where the value is less than itself rounded; else at it or just above.
unfoldable pub side_of : Float → Side
side_of v = cond (near_whole v) (cond (lt v (round_away v)) Below Above) Off

unfoldable pub side_on : Axis → Float → Side
side_on a v = side_of (scaled_on a v)
