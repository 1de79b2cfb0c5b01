-- Document 02's change 7: when two segments share a point. It is said over whole numbers, and then of segments whose coordinates are floats, by the
-- exact values of these. Definitions only.
use Rattle.std.specs.Prelude.{◌≡◌, true, false, ℕ, ◌*◌, ◌≤◌, ◌<◌, ℤ, pos, neg_ℤ, ◌+ℤ◌, ◌-ℤ◌, ◌*ℤ◌, Float}
use Rattle.std.specs.Float.{nan, inf, fin}
use Rattle.std.specs.Float.Ieee.{up, down}
use Rattle.grid.specs.declared.Segment.{Segment}

-- ---- over whole numbers

-- a segment whose coordinates are whole numbers
pub record WholeSegment : Type 0 where
  pub start_x : ℤ
  pub start_y : ℤ
  pub end_x : ℤ
  pub end_y : ℤ

-- "q times the first's start plus a times its end less its start", on one axis
unfoldable pub q_times : ℕ → ℕ → ℤ → ℤ → ℤ
q_times q a start end = pos q *ℤ start +ℤ pos a *ℤ (end -ℤ start)

-- "Two segments share a point when there are whole numbers q above 0 and a, b from 0 to q such that, on both axes, q times the first's start plus a
-- times its end less its start equals the same of the second with b."
pub record WholeShare (s t : WholeSegment) : Type 0 where
  pub q : ℕ
  pub a : ℕ
  pub b : ℕ
  pub above : 0 < q
  pub a_to : a ≤ q
  pub b_to : b ≤ q
  pub on_x_lem : q_times q a s.start_x s.end_x ≡ q_times q b t.start_x t.end_x
  pub on_y_lem : q_times q a s.start_y s.end_y ≡ q_times q b t.start_y t.end_y

-- ---- over floats

-- the exact value of a float is z / n; a NaN and an infinity have none
abbrev pub Exactly : Float → ℤ → ℕ → Type 0
Exactly nan z n = ⊥
Exactly (inf s) z n = ⊥
Exactly (fin false m e) z n = pos (m * up e * n) ≡ z *ℤ pos (down e)
Exactly (fin true m e) z n = neg_ℤ (pos (m * up e * n)) ≡ z *ℤ pos (down e)

-- the coordinates of a segment are those of w, each by n
pub record InParts (n : ℕ) (line : Segment) (w : WholeSegment) : Type 0 where
  pub «start_x» : Exactly line.start_x w.start_x n
  pub «start_y» : Exactly line.start_y w.start_y n
  pub «end_x» : Exactly line.end_x w.end_x n
  pub «end_y» : Exactly line.end_y w.end_y n

-- two segments share a point if they do in some n-ths, in which the coordinates of both are whole numbers; floats always have such n
pub record SharePoint (first second : Segment) : Type 0 where
  pub n : ℕ
  pub above : 0 < n
  pub s : WholeSegment
  pub t : WholeSegment
  pub s_is : InParts n first s
  pub t_is : InParts n second t
  pub share : WholeShare s t
