-- When a line comes into a window: by an exact point, or by an end; and what it means that a query misses none of these. An exact point of a line is that of
-- document 02's change 7: whole-number weights on the exact values of the floats. Definitions only.
use Rattle.std.specs.Prelude.{◌≡◌, Bool, true, ◌&&◌, ◌||◌, List, ℕ, ◌≤◌, ◌<◌, ℤ, pos, ◌*ℤ◌, ◌≤ℤ◌, Float}
use Rattle.std.specs.Float.Ieee.{le}
use Rattle.slices.specs.Lists.{elem}
use Rattle.grid.specs.declared.Box.{Box}
use Rattle.grid.specs.declared.Segment.{Segment}
use Rattle.grid.specs.Domain.{Lines, count, segment_at}
use Rattle.grid.specs.Points.{WholeSegment, q_times, InParts}

-- ---- by an exact point

-- the corners of a window, the lower one first
abbrev pub diagonal : Box → Segment
diagonal w = record { start_x = w.min_x; start_y = w.min_y; end_x = w.max_x; end_y = w.max_y }

-- z lies between q times the one and q times the other, both included
pub record Between (q : ℕ) (low : ℤ) (z : ℤ) (high : ℤ) : Type 0 where
  pub from : (pos q *ℤ low) ≤ℤ z
  pub to : z ≤ℤ (pos q *ℤ high)

-- A line has an exact point inside a window, if in some n-ths, in which the coordinates of both are whole numbers, there are whole numbers q above 0 and a
-- from 0 to q such that, on both axes, q times the line's start plus a times its end less its start lies between q times the window's corners.
pub record Enters (line : Segment) (w : Box) : Type 0 where
  pub n : ℕ
  pub above : 0 < n
  pub s : WholeSegment
  pub t : WholeSegment
  pub s_is : InParts n line s
  pub t_is : InParts n (diagonal w) t
  pub q : ℕ
  pub a : ℕ
  pub some : 0 < q
  pub a_to : a ≤ q
  pub on_x_lem : Between q t.start_x (q_times q a s.start_x s.end_x) t.end_x
  pub on_y_lem : Between q t.start_y (q_times q a s.start_y s.end_y) t.end_y

-- ---- by an end

-- a point lies in a window, its edges included
abbrev pub box_holds : Box → Float → Float → Bool
box_holds w x y = (le w.min_x x && le x w.max_x) && (le w.min_y y && le y w.max_y)

unfoldable pub has_end : Segment → Box → Bool
has_end line w = box_holds w line.start_x line.start_y || box_holds w line.end_x line.end_y

-- ---- nothing is missed

-- every line that has an exact point inside the window is among the lines found
abbrev pub EnteringFound : Lines → Box → List ℕ → Type 0
EnteringFound ls w found = (i : ℕ) → i < count ls → Enters (segment_at ls i) w → elem i found ≡ true

-- every line that has an end in it is
abbrev pub EndingFound : Lines → Box → List ℕ → Type 0
EndingFound ls w found = (i : ℕ) → i < count ls → has_end (segment_at ls i) w ≡ true → elem i found ≡ true
