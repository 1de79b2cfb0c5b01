-- What is added beside the walked cells: the boundary rule of document 01, "The walk", and that of document 02, 4. Definitions only.
use Rattle.std.specs.Prelude.{ℕ, ◌+◌, ◌-◌, ◌*◌, ◌%◌, cond, ltb, eqb, Float}
use mathlib.Core.List.{List, [], ◌∷◌, ◌++◌, flat_map}
use Rattle.std.specs.Float.Ieee.{eq}
use Rattle.numbers.specs.Arithmetic.{◌-₆₄◌}
use Rattle.grid.specs.declared.Axis.{Axis}
use Rattle.grid.specs.declared.Grid.{Grid}
use Rattle.grid.specs.declared.Segment.{Segment}
use Rattle.grid.specs.declared.Side.{Side}
use Rattle.grid.specs.declared.Side.TheVariants.{Off, Above, Below}
use Rattle.grid.specs.Axes.{x_axis, y_axis, index_on, side_on}
use Rattle.turns.specs.Turns.{nought}
use Rattle.walk.specs.declared.Mode.{Mode}
use Rattle.walk.specs.declared.Mode.TheVariants.{Rust, Sided, Covering}
use Rattle.walk.specs.declared.Neighbour.{Neighbour}
use Rattle.walk.specs.declared.Neighbour.TheVariants.{None, Lower, Upper}

-- ---- which neighbour

-- The neighbour that a coordinate adds on its axis, by the side of a boundary that it is on. In this table the modes that walk by turns differ, and nowhere
-- else: just below a boundary the Rust's walk adds the lower neighbour, as it does at it and just above; the sided walk adds the upper one, which is across
-- the boundary. The covering walk knows no boundaries.
unfoldable pub neighbour_for : Mode → Side → Neighbour
neighbour_for Rust Off = None
neighbour_for Rust Above = Lower
neighbour_for Rust Below = Lower
neighbour_for Sided Off = None
neighbour_for Sided Above = Lower
neighbour_for Sided Below = Upper
neighbour_for Covering side = None

-- of a coordinate, which an endpoint adds
unfoldable pub neighbour_on : Mode → Axis → Float → Neighbour
neighbour_on mode a v = neighbour_for mode (side_on a v)

-- of a whole line: where d = 0 on the axis that of the coordinate to which it keeps, else none
unfoldable pub along_on : Mode → Axis → Float → Float → Neighbour
along_on mode a start end = cond (eq (end -₆₄ start) nought) (neighbour_on mode a start) None

-- ---- where it is: beside the cell c, on a grid of so many columns and cells

-- in the lower column, none at the first column
unfoldable pub low_col_of : ℕ → ℕ → List ℕ
low_col_of cols c = cond (eqb (c % cols) 0) [] ((c - 1) ∷ [])

-- in the upper column, none at the last
unfoldable pub up_col_of : ℕ → ℕ → List ℕ
up_col_of cols c = cond (ltb (c % cols + 1) cols) ((c + 1) ∷ []) []

-- in the lower row, none in the first row
unfoldable pub low_row_of : ℕ → ℕ → List ℕ
low_row_of cols c = cond (ltb c cols) [] ((c - cols) ∷ [])

-- in the upper row, none in the last
unfoldable pub up_row_of : ℕ → ℕ → ℕ → List ℕ
up_row_of cols cells c = cond (ltb (c + cols) cells) ((c + cols) ∷ []) []

unfoldable pub column_of : Neighbour → ℕ → ℕ → List ℕ
column_of None cols c = []
column_of Lower cols c = low_col_of cols c
column_of Upper cols c = up_col_of cols c

unfoldable pub row_of : Neighbour → ℕ → ℕ → ℕ → List ℕ
row_of None cols cells c = []
row_of Lower cols cells c = low_row_of cols c
row_of Upper cols cells c = up_row_of cols cells c

-- ---- what is added

-- what a cell adds: the neighbour in x, the one in y, and the corner, which is the neighbour in y of the neighbour in x
unfoldable pub beside_of : Neighbour → Neighbour → ℕ → ℕ → ℕ → List ℕ
beside_of x y cols cells c = (column_of x cols c ++ row_of y cols cells c) ++ flat_map (row_of y cols cells) (column_of x cols c)

-- what the line adds to each of the walked cells
unfoldable pub line_of : Mode → Grid → Segment → List ℕ → List ℕ
line_of mode g line walked =
    flat_map
    (beside_of (along_on mode (x_axis g) line.start_x line.end_x) (along_on mode (y_axis g) line.start_y line.end_y) g.cols
    (g.rows * g.cols))
    walked

-- the number of the cell of a point
unfoldable pub cell_of : Grid → Float → Float → ℕ
cell_of g x y = index_on (y_axis g) y * g.cols + index_on (x_axis g) x

-- what an endpoint adds beside its cell
unfoldable pub endpoint_of : Mode → Grid → Float → Float → List ℕ
endpoint_of mode g x y = beside_of (neighbour_on mode (x_axis g) x) (neighbour_on mode (y_axis g) y) g.cols (g.rows * g.cols) (cell_of g x y)
