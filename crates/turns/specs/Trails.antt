-- The walk by turns as a call: the cells that it leaves in the scratch, the answer and the refusals. Definitions only.
use Rattle.std.specs.Prelude.{◌≡◌, ℕ, zero, suc, Bool, false, cond, List, [], ◌∷◌, ◌++◌, length, take, ◌==◌, slice_index, Result, Ok, Err}
use Rattle.refusals.specs.declared.Refusal.{Refusal}
use Rattle.refusals.specs.Refusals.{refused, gives, ◌then◌, ◌into◌, answer_by, left_by}
use Rattle.grid.specs.declared.Grid.{Grid}
use Rattle.grid.specs.declared.Segment.{Segment}
use Rattle.grid.specs.Axes.{x_axis, y_axis, index_on}
use Rattle.cover.specs.Covering.{scratch_shape_check}
use Rattle.turns.specs.declared.Trod.{Trod}
use Rattle.turns.specs.Turns.{Ray, State, ray_of, start_of}
use Rattle.turns.specs.Pushes.{push_of, Outcome, onward_of}

-- ---- the cells

-- whether the last of the first n of s is c
unfoldable pub last_is : ℕ → List ℕ → ℕ → Bool
last_is zero s c = false
last_is (suc n) s c = slice_index s n == c

-- ys, without its first cell where xs ends in that cell
unfoldable pub unless_there : List ℕ → List ℕ → List ℕ
unless_there xs [] = []
unless_there xs (c ∷ ys) = cond (last_is (length xs) xs c) ys (c ∷ ys)

-- what comes, and then ys, so that no cell is pushed twice running where they meet
unfoldable pub ended_in : Outcome → List ℕ → Outcome
ended_in o ys = o into λ xs. gives (xs ++ unless_there xs ys)

-- the cells of `walked_of`, each as often, but that the end cell is not pushed where it is the last that was pushed
unfoldable pub trodden_of : ℕ → ℕ → Ray → State → Outcome
trodden_of cols rows r s = ended_in (onward_of cols rows r s) (push_of cols rows r.x.end r.y.end)

-- of a grid and a segment as they are, with n entries of scratch: 3, and 8 by the counts alone; with 7
unfoldable pub tread_of : ℕ → Grid → Segment → Outcome
tread_of n g line = scratch_shape_check n g then trodden_of g.cols g.rows (ray_of g line) (start_of g line)

-- ---- what is handed back

-- the number of cells, and the column and the row of each end
unfoldable pub trod_by : Grid → Segment → List ℕ → Trod
trod_by g line xs = record {
  count = length xs;
  start_col = index_on (x_axis g) line.start_x;
  start_row = index_on (y_axis g) line.start_y;
  end_col = index_on (x_axis g) line.end_x;
  end_row = index_on (y_axis g) line.end_y;
}

-- these, or the refusal
unfoldable pub trail_of : Grid → Segment → Outcome → Result Trod Refusal
trail_of g line o = answer_by Err (λ xs. Ok (trod_by g line xs)) o

-- the scratch: the cells at its start (what is beyond them is open), or what the refusal leaves
abbrev pub TrailLeft : Outcome → List ℕ → List ℕ → Type 0
TrailLeft (refused why) was now = now ≡ left_by 0 why was
TrailLeft (gives xs) was now = take (length xs) now ≡ xs

-- what the walk by turns promises
pub record TrailIs (g : Grid) (line : Segment) (was : List ℕ) (r : Result Trod Refusal) (now : List ℕ) : Type 0 where
  pub answer : r ≡ trail_of g line (tread_of (length was) g line)
  pub size : length now ≡ length was
  pub left : TrailLeft (tread_of (length was) g line) was now
