-- Document 01, "The walk": one axis of the line and of the state, and which move comes next. Each float step rounds once, in the written order.
-- Nothing is asked of the floats: a NaN or an infinity takes the same steps. An index is a whole number: it can leave the grid either way.
-- Definitions only.
use Rattle.std.specs.Prelude.{◌+◌, ◌^◌, Bool, true, false, cond, not, ◌&&◌, ℤ, pos, negsuc, ◌+ℤ◌, ◌==◌, Float}
use Rattle.std.specs.Float.{nan, inf, fin}
use Rattle.std.specs.Float.Ieee.{round, lt, le, eq}
use Rattle.numbers.specs.Arithmetic.{◌+₆₄◌, ◌-₆₄◌, ◌*₆₄◌, ◌/₆₄◌, decimal}
use Rattle.numbers.specs.Order.{least_of, greatest_of, magnitude_of}
use Rattle.grid.specs.declared.Axis.{Axis}
use Rattle.grid.specs.declared.Grid.{Grid}
use Rattle.grid.specs.declared.Segment.{Segment}
use Rattle.grid.specs.Axes.{x_axis, y_axis, index_on, low_on}
use Rattle.turns.specs.declared.Turn.{Turn}

abbrev pub nought : Float
nought = fin false 0 (pos 0)

abbrev pub one : Float
one = fin false 1 (pos 0)

abbrev pub infinite : Float
infinite = inf false

unfoldable pub finite_of : Float → Bool
finite_of nan = false
finite_of (inf s) = false
finite_of (fin s m e) = true

-- ---- one axis of the line, d being end - start on it

-- one in the sign of d
unfoldable pub sign_of : Float → ℤ
sign_of d = cond (lt nought d) (pos 1) (cond (lt d nought) (negsuc 0) (pos 0))

-- t_delta = cell size / |d|; infinite where d = 0
unfoldable pub delta_of : Float → Float → Float
delta_of size d = cond (eq d nought) infinite (size /₆₄ magnitude_of d)

-- the next boundary: min + i x cell size, where i is the start index, one more if d > 0
unfoldable pub next_on : Axis → Float → Float → Float
next_on a start d = low_on a (cond (lt nought d) (index_on a start + 1) (index_on a start))

-- t_max = (next boundary - start) / d, not below 0; infinite where d = 0
unfoldable pub first_on : Axis → Float → Float → Float
first_on a start d = cond (eq d nought) infinite (greatest_of ((next_on a start d -₆₄ start) /₆₄ d) nought)

-- what stays through a walk: what a move adds to the index and to t_max, and the index of the end
pub record Stride : Type 0 where
  pub step : ℤ
  pub t_delta : Float
  pub end : ℤ

unfoldable pub stride_on : Axis → Float → Float → Stride
stride_on a start end = record { step = sign_of (end -₆₄ start); t_delta = delta_of a.size (end -₆₄ start); end = pos (index_on a end) }

-- how far a walk has come: the index and t_max
pub record Progress : Type 0 where
  pub index : ℤ
  pub t_max : Float

unfoldable pub progress_on : Axis → Float → Float → Progress
progress_on a start end = record { index = pos (index_on a start); t_max = first_on a start (end -₆₄ start) }

-- both axes of the line, and of the state at its start
pub record Ray : Type 0 where
  pub x : Stride
  pub y : Stride

pub record State : Type 0 where
  pub x : Progress
  pub y : Progress

unfoldable pub ray_of : Grid → Segment → Ray
ray_of g line = record { x = stride_on (x_axis g) line.start_x line.end_x; y = stride_on (y_axis g) line.start_y line.end_y }

unfoldable pub start_of : Grid → Segment → State
start_of g line = record { x = progress_on (x_axis g) line.start_x line.end_x; y = progress_on (y_axis g) line.start_y line.end_y }

-- ---- which move comes next

-- 8 times 2^-52 times the largest of |t_max_x|, |t_max_y| and 1
unfoldable pub tolerance_of : Float → Float → Float
unfolding round
tolerance_of tx ty =
    decimal 8 1 *₆₄ decimal 1 (2 ^ 52) *₆₄ greatest_of (greatest_of (magnitude_of tx) (magnitude_of ty)) one

-- both are finite and differ by at most tolerance
unfoldable pub near_of : Float → Float → Float → Bool
near_of tx ty tolerance = (finite_of tx && finite_of ty) && le (magnitude_of (tx -₆₄ ty)) tolerance

-- A turn says on which axes it moves: on none, the walk stops; on both; or on one.
abbrev pub stop : Turn
stop = record { x = false; y = false }

abbrev pub both : Turn
both = record { x = true; y = true }

-- in x where the test holds, else in y
abbrev pub single : Bool → Turn
single b = record { x = b; y = not b }

-- stop if the lesser t_max exceeds 1 + tolerance; both ways if they are near; else in x if t_max_x < t_max_y, else in y
unfoldable pub further_of : Float → Float → Turn
further_of tx ty =
    cond (lt (one +₆₄ tolerance_of tx ty) (least_of tx ty)) stop
    (cond (near_of tx ty (tolerance_of tx ty)) both
    (single (lt tx ty)))

-- two whole numbers are the same
unfoldable pub same_int : ℤ → ℤ → Bool
same_int (pos m) (pos n) = m == n
same_int (negsuc m) (negsuc n) = m == n
same_int (pos m) (negsuc n) = false
same_int (negsuc m) (pos n) = false

-- the end cell is reached
unfoldable pub arrived_of : Ray → State → Bool
arrived_of r s = same_int s.x.index r.x.end && same_int s.y.index r.y.end

-- while the end cell is not reached
unfoldable pub turn_of : Ray → State → Turn
turn_of r s = cond (arrived_of r s) stop (further_of s.x.t_max s.y.t_max)

-- ---- a move

-- the index after a move
abbrev pub stepped_of : Stride → Progress → ℤ
stepped_of c p = p.index +ℤ c.step

-- a move on an axis changes its index by one in the sign of d and adds t_delta to its t_max
unfoldable pub advanced : Bool → Stride → Progress → Progress
advanced false c p = p
advanced true c p = record { index = stepped_of c p; t_max = p.t_max +₆₄ c.t_delta }

unfoldable pub moved_of : Turn → Ray → State → State
moved_of k r s = record { x = advanced k.x r.x s.x; y = advanced k.y r.y s.y }

-- whether a turn moves at all
unfoldable pub goes_of : Turn → Bool
goes_of k = cond k.x true k.y
