-- The walk as the code takes it: an index is kept modulo 2^32, so that -1 is 2^32 - 1 and one comparison tells inside from outside. Over at most 5,000
-- turns on a grid whose counts are fit it finds what the whole numbers of `Turns`, `Pushes` and `Trails` find (`walked_is` and `trodden_is` in
-- proofs/Whole.antt). Definitions only.
use Rattle.std.specs.Prelude.{ℕ, zero, suc, ◌+◌, ◌*◌, ◌%◌, Bool, true, false, cond, ◌&&◌, List, [], ◌++◌, ◌==◌, nat_lt, Float}
use Rattle.std.specs.Float.Ieee.{lt}
use Rattle.numbers.specs.Arithmetic.{◌+₆₄◌, ◌-₆₄◌}
use Rattle.refusals.specs.Refusals.{refusal, refused, gives}
use Rattle.grid.specs.declared.Axis.{Axis}
use Rattle.grid.specs.declared.Grid.{Grid}
use Rattle.grid.specs.declared.Segment.{Segment}
use Rattle.grid.specs.Axes.{x_axis, y_axis, index_on}
use Rattle.turns.specs.declared.Course.{Course}
use Rattle.turns.specs.declared.Position.{Position}
use Rattle.turns.specs.declared.Turn.{Turn}
use Rattle.turns.specs.declared.Walk.{Walk}
use Rattle.turns.specs.declared.Way.{Way}
use Rattle.turns.specs.Turns.{nought, delta_of, first_on, stop, further_of, goes_of}
use Rattle.turns.specs.Pushes.{kept_if, Outcome, before, followed_by}
use Rattle.turns.specs.Trails.{ended_in}

-- one in the sign of d
unfoldable pub step_by : Float → ℕ
step_by d = cond (lt nought d) 1 (cond (lt d nought) 4294967295 0)

unfoldable pub course_by : Axis → Float → Float → Course
course_by a start end = record { step = step_by (end -₆₄ start); t_delta = delta_of a.size (end -₆₄ start); end = index_on a end }

unfoldable pub position_by : Axis → Float → Float → Position
position_by a start end = record { index = index_on a start; t_max = first_on a start (end -₆₄ start) }

unfoldable pub way_by : Grid → Segment → Way
way_by g line = record { x = course_by (x_axis g) line.start_x line.end_x; y = course_by (y_axis g) line.start_y line.end_y }

unfoldable pub start_by : Grid → Segment → Walk
start_by g line = record { x = position_by (x_axis g) line.start_x line.end_x; y = position_by (y_axis g) line.start_y line.end_y }

unfoldable pub arrived_by : Way → Walk → Bool
arrived_by way w = w.x.index == way.x.end && w.y.index == way.y.end

unfoldable pub turn_by : Way → Walk → Turn
turn_by way w = cond (arrived_by way w) stop (further_of w.x.t_max w.y.t_max)

unfoldable pub stepped_by : Course → Position → ℕ
stepped_by c p = (p.index + c.step) % 4294967296

unfoldable pub advanced_by : Bool → Course → Position → Position
advanced_by false c p = p
advanced_by true c p = record { index = stepped_by c p; t_max = p.t_max +₆₄ c.t_delta }

unfoldable pub moved_by : Turn → Way → Walk → Walk
moved_by k way w = record { x = advanced_by k.x way.x w.x; y = advanced_by k.y way.y w.y }

unfoldable pub push_by : ℕ → ℕ → ℕ → ℕ → List ℕ
push_by cols rows col row = kept_if (nat_lt col cols && nat_lt row rows) (row * cols + col)

unfoldable pub sides_by : Bool → ℕ → ℕ → Way → Walk → List ℕ
sides_by false cols rows way w = []
sides_by true cols rows way w = push_by cols rows (stepped_by way.x w.x) w.y.index ++ push_by cols rows w.x.index (stepped_by way.y w.y)

unfoldable pub pushed_by : Turn → ℕ → ℕ → Way → Walk → List ℕ
pushed_by k cols rows way w =
    sides_by (k.x && k.y) cols rows way w
    ++ push_by cols rows (moved_by k way w).x.index (moved_by k way w).y.index

unfoldable pub next_by : Way → Walk → Walk
next_by way w = moved_by (turn_by way w) way w

unfoldable pub going_by : Way → Walk → Bool
going_by way w = goes_of (turn_by way w)

unfoldable pub turns_by : ℕ → ℕ → ℕ → Way → Walk → Outcome
turns_by zero cols rows way w = cond (going_by way w) (refused (refusal 7 0)) (gives [])
turns_by (suc left) cols rows way w = cond (going_by way w) (before (pushed_by (turn_by way w) cols rows way w) (turns_by left cols rows way (next_by way w))) (gives [])

abbrev pub onward_by : ℕ → ℕ → Way → Walk → Outcome
onward_by cols rows way w = before (push_by cols rows w.x.index w.y.index) (turns_by 5000 cols rows way w)

unfoldable pub walked_by : ℕ → ℕ → Way → Walk → Outcome
walked_by cols rows way w = followed_by (onward_by cols rows way w) (push_by cols rows way.x.end way.y.end)

unfoldable pub trodden_by : ℕ → ℕ → Way → Walk → Outcome
trodden_by cols rows way w = ended_in (onward_by cols rows way w) (push_by cols rows way.x.end way.y.end)
