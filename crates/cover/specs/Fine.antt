-- Fine units: on each axis a cell is 2^20 of them wide. Floats bring a coordinate into fine units, by two rounded steps and a cut; all that the covering
-- walk does with it then is whole numbers. Definitions only.
use Rattle.std.specs.Prelude.{ℕ, Bool, false, ◌&&◌, pos, Float}
use Rattle.std.specs.Float.{fin}
use Rattle.std.specs.Float.Ieee.{le, lt, to_unsigned}
use Rattle.numbers.specs.Arithmetic.{◌-₆₄◌, ◌/₆₄◌}
use Rattle.grid.specs.declared.Axis.{Axis}

-- a fine unit: the cell size of the axis by 2^20
unfoldable pub unit_on : Axis → Float
unit_on a = a.size /₆₄ fin false 1 (pos 20)

-- (coordinate - min) / unit
unfoldable pub units_on : Axis → Float → Float
units_on a v = (v -₆₄ a.low) /₆₄ unit_on a

-- the fine coordinate: the whole part of that
unfoldable pub fine_on : Axis → Float → ℕ
fine_on a v = to_unsigned 64 (units_on a v)

-- 4,095 cells, in fine units
abbrev pub limit : Float
limit = fin false 4095 (pos 20)

-- the guard: the coordinate is not below the low side of the grid, and less than 4,095 cells from it
unfoldable pub near_on : Axis → Float → Bool
near_on a v = le a.low v && lt (units_on a v) limit
