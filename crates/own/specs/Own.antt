-- Document 01, "Ownership and snapping", its first paragraph: the two ownership tests of a cell. The edges of an index on an axis are
-- `low_on` and `high_on`. Definitions only.
use Rattle.refusals.specs.declared.Refusal.{Refusal}
use Rattle.std.specs.Prelude.{Ok, Err, Result, ℕ, suc, Bool, ◌&&◌, ◌||◌, ◌==◌, Float}
use Rattle.std.specs.Float.Ieee.{lt, le, eq}
use Rattle.refusals.specs.Refusals.{Check, and_then, gives, ◌then◌, answer_by}
use Rattle.grid.specs.declared.Grid.{Grid}
use Rattle.grid.specs.declared.Axis.{Axis}
use Rattle.grid.specs.Axes.{x_axis, y_axis, low_on, high_on}
use Rattle.grid.specs.Domain.{point_check, grid_check, cell_check}
use Rattle.snap.specs.Snap.{snap_check, snap_of}

-- ---- a point

-- one axis: low <= p < high; in the last column or row p = high counts too
unfoldable pub owns_on : Axis → ℕ → Float → Bool
owns_on a i p = le (low_on a i) p && (lt p (high_on a i) || (suc i == a.count && eq p (high_on a i)))

-- both axes
unfoldable pub owns_point : Grid → ℕ → ℕ → Float → Float → Bool
owns_point g row col x y = owns_on (x_axis g) col x && owns_on (y_axis g) row y

-- ---- a collinear overlap, by its first end, snapped

-- one axis: low <= p < high, in the last column or row too
unfoldable pub holds_on : Axis → ℕ → Float → Bool
holds_on a i p = le (low_on a i) p && lt p (high_on a i)

-- both axes, or the cell is (0, 0)
unfoldable pub owns_overlap : Grid → ℕ → ℕ → Float → Float → Bool
owns_overlap g row col x y = (holds_on (x_axis g) col x && holds_on (y_axis g) row y) || (row == 0 && col == 0)

-- ---- the answers

abbrev pub owned : Bool → Result Bool Refusal
owned owns = Ok owns

-- 1, then 8: what every call here checks first
unfoldable pub point_on_grid_check : Grid → Float → Float → Check
point_on_grid_check g x y = and_then (point_check x y) (grid_check g)

-- after refusals 1, 8 and 9
unfoldable pub point_answer : Grid → ℕ → ℕ → Float → Float → Result Bool Refusal
point_answer g row col x y =
    answer_by Err owned (point_on_grid_check g x y then cell_check g row col then gives (owns_point g row col x y))

-- after refusals 1, 8, 12 and 9
unfoldable pub overlap_answer : Grid → ℕ → ℕ → Float → Float → Float → ℕ → Result Bool Refusal
overlap_answer g row col x y size strategy =
    answer_by Err owned
    (point_on_grid_check g x y
    then snap_check size strategy
    then cell_check g row col
    then gives (owns_overlap g row col (snap_of size x) (snap_of size y)))
