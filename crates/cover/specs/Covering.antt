-- The cells of a segment in the covering mode, what the walk answers, and what it leaves. Definitions only.
use Rattle.std.specs.Prelude.{ℕ, zero, suc, ◌*◌, ◌≡◌, Bool, true, cond, not, ◌&&◌, List, [], leb, ltb, length, take, Float, Result, Ok, Err}
use Rattle.refusals.specs.declared.Refusal.{Refusal}
use Rattle.refusals.specs.Refusals.{Check, unless, and_then, gives, ◌then◌, answer_by}
use Rattle.slices.specs.Lists.{elem}
use Rattle.grid.specs.declared.Grid.{Grid}
use Rattle.grid.specs.declared.Segment.{Segment}
use Rattle.grid.specs.Axes.{x_axis, y_axis}
use Rattle.grid.specs.Domain.{shape, scratch_check}
use Rattle.cover.specs.declared.Ends.{Ends}
use Rattle.cover.specs.declared.Covered.{Covered}
use Rattle.cover.specs.declared.Covered.TheVariants.{Found, Everywhere}
use Rattle.cover.specs.Fine.{fine_on, near_on}
use Rattle.cover.specs.Rule.{run, cells_between}

-- ---- the cells

-- both coordinates of an end pass the guard
unfoldable pub end_passes : Grid → Float → Float → Bool
end_passes g x y = near_on (x_axis g) x && near_on (y_axis g) y

-- both ends of a line pass it
unfoldable pub passes : Grid → Segment → Bool
unfolding end_passes
passes g line = end_passes g line.start_x line.start_y && end_passes g line.end_x line.end_y

-- two ends, the lower one first; of two that are equally high the first
abbrev pub ordered : ℕ → ℕ → ℕ → ℕ → Ends
ordered x₀ y₀ x₁ y₁ =
    cond (leb y₀ y₁) (record { from_x = x₀; from_y = y₀; to_x = x₁; to_y = y₁ }) (record { from_x = x₁; from_y = y₁; to_x = x₀; to_y = y₀ })

-- the ends of a line, in fine units
unfoldable pub fine_ends : Grid → Segment → Ends
fine_ends g line =
    ordered (fine_on (x_axis g) line.start_x) (fine_on (y_axis g) line.start_y) (fine_on (x_axis g) line.end_x) (fine_on (y_axis g) line.end_y)

-- every cell of the grid
abbrev pub every_cell : Grid → List ℕ
every_cell g = run (g.rows * g.cols) 0

-- none on a grid of 0 columns
unfoldable pub unless_no_column : ℕ → List ℕ → List ℕ
unless_no_column zero xs = []
unless_no_column (suc n) xs = xs

-- the cells of a segment: those of the rule, and every cell where an end does not pass the guard
unfoldable pub covering_of : Grid → Segment → List ℕ
unfolding passes fine_ends cells_between run
covering_of g line = unless_no_column g.cols (cond (passes g line) (cells_between g.cols g.rows (fine_ends g line)) (every_cell g))

-- an end does not pass, on a grid that has cells: the line is in all of them
unfoldable pub off_grid : Grid → Segment → Bool
off_grid g line = ltb 0 g.cols && not (passes g line)

-- an end does not pass, and the grid has more than 2,048 cells
unfoldable pub everywhere : Grid → Segment → Bool
everywhere g line = not (passes g line) && ltb 2048 (g.rows * g.cols)

-- two lists have an entry in common
pub record Common (xs ys : List ℕ) : Type 0 where
  pub cell : ℕ
  pub in_first : elem cell xs ≡ true
  pub in_second : elem cell ys ≡ true

-- ---- the answer

-- 3, by n entries of scratch, and 8, by the counts of the grid alone: all that the cells of any line need to have room there
unfoldable pub scratch_shape_check : ℕ → Grid → Check
scratch_shape_check n g = and_then (scratch_check n) (unless (shape g.cols g.rows) 8 0)

-- how many cells there are, or that they are every cell of a grid of more than 2,048
unfoldable pub found_of : Grid → Segment → Result Covered Refusal
unfolding everywhere covering_of
found_of g line = cond (everywhere g line) (Ok Everywhere) (Ok (Found (length (covering_of g line))))

-- the first refusal that applies, else that
unfoldable pub covered_of : ℕ → Grid → Segment → Result Covered Refusal
unfolding found_of
covered_of n g line = answer_by Err (λ c. c) (scratch_shape_check n g then gives (found_of g line))

-- ---- what is left of the scratch

-- the cells at its start, and what is beyond them is open; every other answer changes nothing
abbrev pub CoverLeft : List ℕ → List ℕ → Result Covered Refusal → List ℕ → Type 0
CoverLeft cells was (Ok (Found n)) now = take n now ≡ cells
CoverLeft cells was (Ok Everywhere) now = now ≡ was
CoverLeft cells was (Err r) now = now ≡ was

-- what the covering walk promises, of a grid and a segment as they are
pub record CoverIs (g : Grid) (line : Segment) (was : List ℕ) (r : Result Covered Refusal) (now : List ℕ) : Type 0 where
  pub answer : r ≡ covered_of (length was) g line
  pub size : length now ≡ length was
  pub left : CoverLeft (covering_of g line) was r now
