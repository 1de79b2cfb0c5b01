-- What the private functions ask of their lines and boxes, beside what a scan asks. Definitions only.
use Rattle.std.specs.Prelude.{Ok, ℕ, ◌+◌, ◌*◌, ◌≤◌, ◌<◌, ◌≡◌, List, Float, length, get_or, set}
use Rattle.slices.specs.Lists.{Below}
use Rattle.grid.specs.declared.Box.{Box}
use Rattle.grid.specs.Domain.{Lines, count, segment_at, lines_check}
use Rattle.grid.specs.Boxes.{box_of}
use Rattle.short_lists.specs.Short.{ready_box}
use Rattle.once.specs.declared.rows.Row.{Row}

-- a line with its box, and how sure the marks are that it goes by
abbrev pub row_of : Lines → ℕ → ℕ → Row
row_of ls a sure = record { first = a; sure = sure; bounds = box_of (segment_at ls a) }

-- the lines pass their check, beside what is asked of them
pub record LinesChecked (ls : Lines) (A : Type 0) : Type 0 where
  pub fine : lines_check ls ≡ Ok tt
  pub asks : A

-- a row holds the box of its line, too
pub record RowHeld (ls : Lines) (row : Row) (A : Type 0) : Type 0 where
  pub fine : lines_check ls ≡ Ok tt
  pub held : row.bounds ≡ box_of (segment_at ls row.first)
  pub most : row.sure ≤ 1
  pub asks : A

-- ---- boxes that stand ready

-- a box is written as box u of a list with four floats for each
abbrev pub with_ready : List Float → ℕ → Box → List Float
with_ready s u b = set (set (set (set s (u * 4) b.min_x) (u * 4 + 1) b.min_y) (u * 4 + 2) b.max_x) (u * 4 + 3) b.max_y

pub record BoxesAsk (ls : Lines) (xs : List ℕ) (s : List Float) : Type 0 where
  pub below : Below (count ls) xs
  pub room : length xs * 4 ≤ length s

-- the boxes of the first m entries of a list
pub record Boxed (ls : Lines) (xs : List ℕ) (m : ℕ) (s : List Float) : Type 0 where
  pub each : (u : ℕ) → u < m → ready_box s u ≡ box_of (segment_at ls (get_or xs u 0))
