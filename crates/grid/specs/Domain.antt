-- Document 01, "Domain", and the checks of its refusals 1, 2, 3, 8 and 9, in its words. Definitions only.
use Rattle.refusals.specs.Refusals.{Check}
use Rattle.std.specs.Prelude.{◌≡◌, ℕ, ◌*◌, Bool, ◌&&◌, ◌||◌, List, length, get_or, leb, ltb, eqb, Float}
use Rattle.std.specs.Float.{nan}
use Rattle.std.specs.Float.Ieee.{le}
use Rattle.numbers.specs.Arithmetic.{decimal}
use Rattle.numbers.specs.Order.{magnitude_of}
use Rattle.refusals.specs.Refusals.{unless, and_then, each_from}
use Rattle.grid.specs.declared.Grid.{Grid}
use Rattle.grid.specs.declared.Segment.{Segment}

-- ---- coordinates

-- a coordinate: finite, of magnitude at most 1e9 (no NaN and no infinity is at most that)
unfoldable pub coordinate : Float → Bool
coordinate v = le (magnitude_of v) (decimal 1000000000 1)

-- both coordinates of a point
unfoldable pub point : Float → Float → Bool
point x y = coordinate x && coordinate y

-- the four coordinates of a segment
unfoldable pub segment : Segment → Bool
segment s = point s.start_x s.start_y && point s.end_x s.end_y

-- ---- lines

-- lines, as they are lent: line i goes from entry i of the starts to entry i of the ends
pub record Lines : Type 0 where
  pub start_x : List Float
  pub start_y : List Float
  pub end_x : List Float
  pub end_y : List Float

abbrev pub lines : List Float → List Float → List Float → List Float → Lines
lines x₀ y₀ x₁ y₁ = record { start_x = x₀; start_y = y₀; end_x = x₁; end_y = y₁ }

-- the number of lines
abbrev pub count : Lines → ℕ
count ls = length ls.start_x

-- a segment by its four coordinates
abbrev pub segment_by : Float → Float → Float → Float → Segment
segment_by x₀ y₀ x₁ y₁ = record { start_x = x₀; start_y = y₀; end_x = x₁; end_y = y₁ }

-- line i; beyond the last line every coordinate is a NaN
abbrev pub segment_at : Lines → ℕ → Segment
segment_at ls i = segment_by (get_or ls.start_x i nan) (get_or ls.start_y i nan) (get_or ls.end_x i nan) (get_or ls.end_y i nan)

-- the four slices have one length
pub record Alike (ls : Lines) : Type 0 where
  pub «start_y» : length ls.start_y ≡ count ls
  pub «end_x» : length ls.end_x ≡ count ls
  pub «end_y» : length ls.end_y ≡ count ls

-- the coordinates of line i obey the rule
unfoldable pub line_fits : Lines → ℕ → Bool
line_fits ls i = segment (segment_at ls i)

-- ---- the grid record

-- a count of a grid that has cells
abbrev pub counts : ℕ → Bool
counts n = leb 1 n && leb n 4004

-- the counts: both 0, or each 1 to 4,004 with product at most 1,002,001
unfoldable pub shape : ℕ → ℕ → Bool
shape cols rows = (eqb cols 0 && eqb rows 0) || (counts cols && (counts rows && leb (rows * cols) 1002001))

-- the size of a cell on an axis: from a quarter of 1e-6 to 2e9
unfoldable pub size_fits : Float → Bool
size_fits s = le (decimal 1 4000000) s && le s (decimal 2000000000 1)

-- on both axes
unfoldable pub sizes_fit : Float → Float → Bool
sizes_fit width height = size_fits width && size_fits height

-- fit: both minima obey the coordinate rule, the width and the height of a cell and the counts are as above
unfoldable pub fit : Grid → Bool
fit g = point g.min_x g.min_y && (sizes_fit g.cell_width g.cell_height && shape g.cols g.rows)

-- ---- the checks, each with document 01's number and value

-- 3: coordinate slices differ in length
unfoldable pub lengths_check : Lines → Check
lengths_check ls =
    unless (eqb (length ls.start_y) (count ls) && (eqb (length ls.end_x) (count ls) && eqb (length ls.end_y) (count ls))) 3 0

-- 3: scratch is short
unfoldable pub scratch_check : ℕ → Check
scratch_check n = unless (leb 16384 n) 3 0

-- 2: more than 65,536 lines
unfoldable pub count_check : ℕ → Check
count_check n = unless (leb n 65536) 2 n

-- 1: a coordinate breaks the rule; the first such line
unfoldable pub coordinates_check : Lines → Check
coordinates_check ls = each_from (line_fits ls) 1 (count ls) 0

-- 1, of one coordinate, of a point and of one segment: the value is 0
unfoldable pub coordinate_check : Float → Check
coordinate_check v = unless (coordinate v) 1 0

unfoldable pub point_check : Float → Float → Check
point_check x y = unless (point x y) 1 0

unfoldable pub segment_check : Segment → Check
segment_check s = unless (segment s) 1 0

-- 8: grid record unfit
unfoldable pub grid_check : Grid → Check
grid_check g = unless (fit g) 8 0

-- 9: a cell beyond its end; the value is the row
unfoldable pub cell_check : Grid → ℕ → ℕ → Check
cell_check g row col = unless (ltb row g.rows && ltb col g.cols) 9 row

-- 3, 2, 1, in that order: what every call that is lent lines checks first
unfoldable pub lines_check : Lines → Check
lines_check ls = and_then (lengths_check ls) (and_then (count_check (count ls)) (coordinates_check ls))
