-- How many cells a walk pushes, by the line: along an axis few, at a point hardly any. Assumes nothing.
use Rattle.std.proofs.Common.{◌≡◌, ℕ, ◌+◌, ◌*◌, ◌%◌, ◌≤◌, true, false, List, length, sym, ◌∙◌, inl, inr, arith}
use lib.Ieee.{Float, inf, binary64, sub, eq}
use Rattle.slices.specs.Lists.{Below}
use Rattle.refusals.specs.Refusals.{gives}
use Rattle.grid.specs.declared.Axis.{Axis}
use Rattle.grid.specs.declared.Grid.{Grid}
use Rattle.grid.specs.declared.Segment.{Segment}
use Rattle.grid.specs.Axes.{x_axis, y_axis, index_on}
use Rattle.grid.proofs.Shapes.{Shape}
use Rattle.turns.specs.Turns.{nought, delta_of, first_on, ray_of, start_of}
use Rattle.turns.specs.Pushes.{walked_of}
use Rattle.turns.specs.InsideModular.{course_by, position_by, way_by, start_by, stepped_by, advanced_by}
use Rattle.turns.specs.Inside.{Far, Straight, Still}
use Rattle.turns.proofs.Floats.{sum_far, step_none, index_le}
use Rattle.turns.proofs.Whole.{walked_is}
use Rattle.turns.proofs.Pushed.{walked_pushed}

-- ---- an axis with d = 0

module _ (a : Axis) (start end : Float) (p : eq (sub binary64 end start) nought ≡ true) where
  pub first_far : first_on a start (sub binary64 end start) ≡ inf false
  unfolding first_on
  first_far = rw p

  delta_far : delta_of a.size (sub binary64 end start) ≡ inf false
  unfolding delta_of
  delta_far = rw p

  far : Far (course_by a start end) (position_by a start end)
  unfolding course_by position_by
  far = record { max = first_far; delta = delta_far }

  stands : a.count ≤ 4004 → advanced_by true (course_by a start end) (position_by a start end) ≡ position_by a start end
  unfolding advanced_by course_by position_by stepped_by
  stands l =
      let e : (index_on a start + 0) % 4294967296 ≡ index_on a start = omega (arith, index_le a start) in
      rw (step_none (sub binary64 end start) p, e, sum_far (first_on a start (sub binary64 end start)) (delta_of a.size (sub binary64 end start)) first_far delta_far, first_far)

-- ---- a segment on a grid

-- d = 0 on an axis
abbrev pub Unmoved : Float → Float → Type 0
Unmoved start end = eq (sub binary64 end start) nought ≡ true

-- what is walked: inside the grid, and how many
pub record Few (g : Grid) (line : Segment) (xs : List ℕ) : Type 0 where
  pub inside : Below (g.rows * g.cols) xs
  pub all : length xs ≤ 15002
  pub up : Unmoved line.start_x line.end_x → length xs ≤ 5002
  pub across : Unmoved line.start_y line.end_y → length xs ≤ 5002
  pub point : Unmoved line.start_x line.end_x → Unmoved line.start_y line.end_y → length xs ≤ 2

module _ (g : Grid) (line : Segment) where
  straight_x : Unmoved line.start_x line.end_x → Straight (way_by g line) (start_by g line)
  unfolding way_by start_by
  straight_x p = inl (far (x_axis g) line.start_x line.end_x p)

  straight_y : Unmoved line.start_y line.end_y → Straight (way_by g line) (start_by g line)
  unfolding way_by start_by
  straight_y p = inr (far (y_axis g) line.start_y line.end_y p)

  still : Shape g.cols g.rows → Unmoved line.start_x line.end_x → Unmoved line.start_y line.end_y → Still (way_by g line) (start_by g line)
  unfolding way_by start_by
  still s p q = record {
    x = stands (x_axis g) line.start_x line.end_x p s.wide;
    y = stands (y_axis g) line.start_y line.end_y q s.high;
  }

  pub walked_few : Shape g.cols g.rows → (xs : List ℕ) → walked_of g.cols g.rows (ray_of g line) (start_of g line) ≡ gives xs → Few g line xs
  walked_few s xs e =
      let w = walked_pushed g.cols g.rows (way_by g line) (start_by g line) xs (sym (walked_is g line s) ∙ e) in
      record { inside = w.0; all = w.1.0; up = λ p. w.1.1.0 (straight_x p); across = λ p. w.1.1.0 (straight_y p); point = λ p q. w.1.1.1 (still s p q) }
