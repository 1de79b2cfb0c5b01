-- Document 02, 14: the cells of a line that keeps to one coordinate, "exactly those that exist among: its column, rows between those of its ends; the
-- column below beside these, if x is on a boundary; and, for each end whose y is on a boundary, the cell one row lower in its column and, with x on a
-- boundary, in the column below". It is said by axis, so that it holds of a horizontal line too, with rows for columns; and of the index that a
-- coordinate adds, so that it holds in every mode of walk, with the neighbour of that mode for the one below. Definitions only.
use Rattle.std.specs.Prelude.{ℕ, zero, suc, ◌*◌, ◌/◌, ◌%◌, Bool, false, ◌&&◌, ◌||◌, List, [], ◌++◌, leb, eqb, Float}
use Rattle.grid.specs.declared.Axis.{Axis}
use Rattle.grid.specs.declared.Grid.{Grid}
use Rattle.grid.specs.declared.Segment.{Segment}
use Rattle.grid.specs.Axes.{x_axis, y_axis, index_on, boundary_on}
use Rattle.walk.specs.declared.Mode.{Mode}
use Rattle.walk.specs.declared.Neighbour.{Neighbour}
use Rattle.walk.specs.declared.Neighbour.TheVariants.{None, Lower, Upper}
use Rattle.turns.specs.Pushes.{kept_if}
use Rattle.walk.specs.Neighbours.{neighbour_on}

-- ---- one axis

-- i is the index of v: v's own column, or row
abbrev pub own_on : Axis → Float → ℕ → Bool
own_on a v i = eqb i (index_on a v)

-- v is on a boundary, and i is one lower than its index: document 01's boundary rule
abbrev pub lower_on : Axis → Float → ℕ → Bool
lower_on a v i = boundary_on a v && eqb (suc i) (index_on a v)

-- k is between i and j, whichever is larger, or one of them
abbrev pub between : ℕ → ℕ → ℕ → Bool
between i j k = (leb i k && leb k j) || (leb j k && leb k i)

-- i is between the indices of the two ends
abbrev pub between_on : Axis → Float → Float → ℕ → Bool
between_on a start end i = between (index_on a start) (index_on a end) i

-- ---- the neighbour in a mode of walk

-- k is the neighbour of the index i
abbrev pub next_to : Neighbour → ℕ → ℕ → Bool
next_to None i k = false
next_to Lower i k = eqb (suc k) i
next_to Upper i k = eqb k (suc i)

-- i is the neighbour that v adds in a mode. In the Rust's mode that is `lower_on` (`rust_beside` in proofs/Listed.antt).
abbrev pub beside_on : Mode → Axis → Float → ℕ → Bool
beside_on mode a v i = next_to (neighbour_on mode a v) (index_on a v) i

-- ---- the sentence

-- which index a coordinate adds to its own
abbrev pub Beside : Type 0
Beside = Axis → Float → ℕ → Bool

-- The line keeps to v on the axis `held`, and goes from `start` to `end` on the axis `run`. The cell has the index i on the one, and j on the other.
-- "for each end whose y is on a boundary, the cell one row lower in its column and, with x on a boundary, in the column below"
abbrev pub by_end : Beside → Axis → Float → Axis → Float → ℕ → ℕ → Bool
by_end beside held v run end i j = beside run end j && (own_on held v i || beside held v i)

-- "its column, rows between those of its ends; the column below beside these, if x is on a boundary; and, for each end .."
unfoldable pub sentence : Beside → Axis → Float → Axis → Float → Float → ℕ → ℕ → Bool
sentence beside held v run start end i j =
    (own_on held v i && between_on run start end j)
    || ((beside held v i && between_on run start end j)
    || (by_end beside held v run start i j || by_end beside held v run end i j))

-- ---- the list

-- of the numbers below n those that pass a test: increasing, none twice
unfoldable pub those : (ℕ → Bool) → ℕ → List ℕ
those test zero = []
those test (suc n) = those test n ++ kept_if (test n) n

-- those that exist: of the cells of the grid, in the order of their numbers, those whose column and row pass a test
abbrev pub cells_where : Grid → (ℕ → ℕ → Bool) → List ℕ
cells_where g test = those (λ c. test (c % g.cols) (c / g.cols)) (g.rows * g.cols)

-- the cells of a line with equal x at both ends
unfoldable pub vertical_by : Beside → Grid → Segment → List ℕ
vertical_by beside g line = cells_where g (λ col row. sentence beside (x_axis g) line.start_x (y_axis g) line.start_y line.end_y col row)

-- the cells of a line with equal y at both ends
unfoldable pub horizontal_by : Beside → Grid → Segment → List ℕ
horizontal_by beside g line = cells_where g (λ col row. sentence beside (y_axis g) line.start_y (x_axis g) line.start_x line.end_x row col)

-- under document 01's boundary rule
abbrev pub vertical_cells : Grid → Segment → List ℕ
vertical_cells g line = vertical_by lower_on g line

abbrev pub horizontal_cells : Grid → Segment → List ℕ
horizontal_cells g line = horizontal_by lower_on g line

-- in a mode of walk
abbrev pub vertical_in : Mode → Grid → Segment → List ℕ
vertical_in mode g line = vertical_by (beside_on mode) g line

abbrev pub horizontal_in : Mode → Grid → Segment → List ℕ
horizontal_in mode g line = horizontal_by (beside_on mode) g line
