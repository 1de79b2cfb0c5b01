-- The exported walks: the number and the value of each outcome, and what is left in each lent slice. Definitions only.
use Rattle.std.specs.Prelude.{ℕ, ◌≡◌, List, false, cond, pos, ltb, Float, length, get_or, set, Result, Ok, Err}
use Rattle.refusals.specs.declared.Refusal.{Refusal}
use Rattle.std.specs.Float.{nan, fin}
use Rattle.grid.specs.declared.Grid.{Grid}
use Rattle.grid.specs.declared.Segment.{Segment}
use Rattle.walk.specs.declared.Mode.{Mode}
use Rattle.walk.specs.declared.Reached.{Reached}
use Rattle.walk.specs.declared.Reached.TheVariants.{Found, Everywhere}
use Rattle.walk.specs.Segment.{everywhere_in, as_is_of, reached_of, Walked}

abbrev none : Float
none = fin false 0 (pos 0)

-- a grid by its minima and the width and the height of its cells, and its counts; where fewer than four are there, each is 0, which no fit grid has
unfoldable pub grid_by_sizes : List Float → ℕ → ℕ → Grid
grid_by_sizes sizes cols rows = cond (ltb (length sizes) 4)
    (record { min_x = none; min_y = none; cell_width = none; cell_height = none; cols = cols; rows = rows })
    (record {
      min_x = get_or sizes 0 nan;
      min_y = get_or sizes 1 nan;
      cell_width = get_or sizes 2 nan;
      cell_height = get_or sizes 3 nan;
      cols = cols;
      rows = rows;
    })

-- 0, 16 where the line is everywhere, or the refusal's number
unfoldable pub reach_number : Result Reached Refusal → ℕ
reach_number (Ok (Found n)) = 0
reach_number (Ok Everywhere) = 16
reach_number (Err r) = r.number

-- the number of cells, 0 where the line is everywhere, or the refusal's value
unfoldable pub reach_value : Result Reached Refusal → ℕ
reach_value (Ok (Found n)) = n
reach_value (Ok Everywhere) = 0
reach_value (Err r) = r.value

-- what the walk of a line answers inside a larger call, with a scratch of n entries
abbrev pub reached_in : Mode → Grid → Segment → ℕ → Result Reached Refusal
reached_in mode g line n = reached_of (everywhere_in mode g line) (as_is_of mode n g line)

-- its number, its value at the start of `out`, and the scratch as the walk promises it
pub record InnerReplies (mode : Mode) (g : Grid) (line : Segment) (scratch out : List ℕ) (r : ℕ) (scratch' out' : List ℕ) : Type 0 where
  pub number : r ≡ reach_number (reached_in mode g line (length scratch))
  pub value : out' ≡ set out 0 (reach_value (reached_in mode g line (length scratch)))
  pub walked : Walked (everywhere_in mode g line) (as_is_of mode (length scratch) g line) scratch (reached_in mode g line (length scratch)) scratch'
