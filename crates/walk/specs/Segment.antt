-- Document 01, "The walk": the cells of one segment in a mode of walk, the answer and the refusals; and the mode that does not walk by turns. Definitions only.
use Rattle.std.specs.Prelude.{ℕ, zero, suc, ◌≡◌, Bool, true, false, cond, not, ◌&&◌, List, [], ◌++◌, length, take, Result, Ok, Err}
use Rattle.refusals.specs.declared.Refusal.{Refusal}
use Rattle.refusals.specs.Refusals.{Check, unless, and_then, refused, gives, ◌then◌, ◌into◌, answer_by, left_by, left_in, zero_beyond}
use Rattle.slices.specs.Slices.{sorted, distinct_of}
use Rattle.grid.specs.declared.Grid.{Grid}
use Rattle.grid.specs.declared.Segment.{Segment}
use Rattle.grid.specs.Domain.{scratch_check, segment_check, grid_check}
use Rattle.cover.specs.Covering.{covering_of, off_grid, everywhere, scratch_shape_check}
use Rattle.turns.specs.Turns.{ray_of, start_of}
use Rattle.turns.specs.Pushes.{Outcome, walked_of}
use Rattle.walk.specs.declared.Mode.{Mode}
use Rattle.walk.specs.declared.Mode.TheVariants.{Rust, Sided, Covering}
use Rattle.walk.specs.declared.Reached.{Reached}
use Rattle.walk.specs.declared.Reached.TheVariants as reached
use Rattle.walk.specs.Neighbours.{line_of, endpoint_of}

-- ---- the answer

-- all that is pushed: the walked cells, what the line adds to each of them, what its endpoints add
unfoldable pub pushes_of : Mode → Grid → Segment → List ℕ → List ℕ
pushes_of mode g line walked =
    walked
    ++ ((line_of mode g line walked ++ endpoint_of mode g line.start_x line.start_y) ++ endpoint_of mode g line.end_x line.end_y)

-- increasing, no cell twice
unfoldable pub answered : Mode → Grid → Segment → Outcome → Outcome
answered mode g line o = o into λ walked. gives (distinct_of (sorted (pushes_of mode g line walked)))

-- the walk by turns: the cells that it walks, with those that its mode adds; or refusal 7
unfoldable pub by_turns : Mode → Grid → Segment → Outcome
by_turns mode g line = answered mode g line (walked_of g.cols g.rows (ray_of g line) (start_of g line))

-- a grid of 0 columns visits nothing
unfoldable pub unless_none : ℕ → Outcome → Outcome
unless_none zero o = gives []
unless_none (suc n) o = o

-- what a mode that walks by turns visits
unfoldable pub turns_of : Mode → Grid → Segment → Outcome
turns_of mode g line = unless_none g.cols (by_turns mode g line)

-- whether a mode walks by turns
unfoldable pub turning : Mode → Bool
turning Rust = true
turning Sided = true
turning Covering = false

-- the cells of the segment: by turns, or refusal 7; or those of the covering walk, which is not refused
unfoldable pub segment_of : Mode → Grid → Segment → Outcome
segment_of mode g line = cond (turning mode) (turns_of mode g line) (gives (covering_of g line))

-- the line is in every cell, and these are more than 2,048: the covering walk alone has such lines
unfoldable pub everywhere_in : Mode → Grid → Segment → Bool
everywhere_in mode g line = not (turning mode) && everywhere g line

-- ---- the refusals

-- 3, 1, 8, by n entries of scratch
unfoldable pub entry_check : ℕ → Grid → Segment → Check
entry_check n g line = and_then (scratch_check n) (and_then (segment_check line) (grid_check g))

-- 16: an end of the line is off the grid of the covering walk. The line is in every cell, and these need not fit the scratch
unfoldable pub off_in : Mode → Grid → Segment → Bool
off_in mode g line = not (turning mode) && off_grid g line

unfoldable pub off_check : Mode → Grid → Segment → Check
off_check mode g line = unless (not (off_in mode g line)) 16 0

-- the walk of one segment: 3, 1, 8, 16; with 7
unfoldable pub entry_of : Mode → ℕ → Grid → Segment → Outcome
entry_of mode n g line = entry_check n g line then off_check mode g line then segment_of mode g line

-- the walk inside a larger call, which has no need of the cells of a line that is in all of them: 3, 1, 8; with 7
unfoldable pub reach_of : Mode → ℕ → Grid → Segment → Outcome
reach_of mode n g line = entry_check n g line then segment_of mode g line

-- the walk of a grid and a segment as they are, which a larger call has checked: 3, and 8 by the counts alone; with 7
unfoldable pub as_is_of : Mode → ℕ → Grid → Segment → Outcome
as_is_of mode n g line = scratch_shape_check n g then segment_of mode g line

-- ---- what is handed back

-- the number of cells, or the refusal
unfoldable pub cells_of : Outcome → Result ℕ Refusal
cells_of o = answer_by Err (λ xs. Ok (length xs)) o

-- the scratch of one segment's walk: the cells at its start, and zero beyond them
unfoldable pub scratch_of : Outcome → List ℕ → List ℕ
scratch_of o was = left_in 0 was o (λ xs. zero_beyond 0 (length was) xs)

-- inside a larger call, by whether the line is everywhere: the number of cells, or that they are all, or the refusal
unfoldable pub reached_of : Bool → Outcome → Result Reached Refusal
reached_of all o = answer_by Err (λ xs. cond all (Ok reached.Everywhere) (Ok (reached.Found (length xs)))) o

-- the scratch of a walk inside a larger call: the cells at its start (what is beyond them is open), or what the refusal leaves; a line that is everywhere
-- changes nothing
abbrev pub Left : Outcome → Bool → List ℕ → List ℕ → Type 0
Left (refused why) all was now = now ≡ left_by 0 why was
Left (gives xs) true was now = now ≡ was
Left (gives xs) false was now = take (length xs) now ≡ xs

-- what a walk inside a larger call promises
pub record Walked (all : Bool) (o : Outcome) (was : List ℕ) (r : Result Reached Refusal) (now : List ℕ) : Type 0 where
  pub answer : r ≡ reached_of all o
  pub size : length now ≡ length was
  pub left : Left o all was now

-- what the walk of one segment promises
pub record Entered (o : Outcome) (was : List ℕ) (r : Result ℕ Refusal) (now : List ℕ) : Type 0 where
  pub answer : r ≡ cells_of o
  pub left : now ≡ scratch_of o was
