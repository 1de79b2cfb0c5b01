-- Which lines the laws speak of: those that are parallel to an axis, and whose floats are values of the format. Definitions only.
use Rattle.std.specs.Prelude.{◌≡◌, Bool, true, ◌||◌, ℕ, ◌<◌, T}
use Rattle.std.specs.Float.{binary64}
use Rattle.std.specs.Float.Ieee.{eq, fits}
use Rattle.grid.specs.declared.Grid.{Grid}
use Rattle.grid.specs.declared.Segment.{Segment}
use Rattle.grid.specs.Domain.{Lines, count, segment_at}

-- equal x at both ends, and equal y; -0 equals 0
abbrev pub vertical : Segment → Bool
vertical line = eq line.start_x line.end_x

abbrev pub horizontal : Segment → Bool
horizontal line = eq line.start_y line.end_y

-- parallel to an axis
abbrev pub straight : Segment → Bool
straight line = vertical line || horizontal line

-- Values of the format, as every f64 of a program is. It has to be said because definitions are over all floats that can be written down: two different
-- ones that are no values of the format can have a difference that is rounded to 0.
pub record InFormat (line : Segment) : Type 0 where
  pub «start_x» : T (fits binary64 line.start_x)
  pub «start_y» : T (fits binary64 line.start_y)
  pub «end_x» : T (fits binary64 line.end_x)
  pub «end_y» : T (fits binary64 line.end_y)

pub record GridInFormat (g : Grid) : Type 0 where
  pub «min_x» : T (fits binary64 g.min_x)
  pub «min_y» : T (fits binary64 g.min_y)

-- all lines, as they are lent to a build
abbrev pub AllStraight : Lines → Type 0
AllStraight ls = (i : ℕ) → i < count ls → straight (segment_at ls i) ≡ true

abbrev pub AllInFormat : Lines → Type 0
AllInFormat ls = (i : ℕ) → i < count ls → InFormat (segment_at ls i)
