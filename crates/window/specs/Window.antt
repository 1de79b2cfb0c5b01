-- Document 02, 3: a query over standing tables that "lists exactly the lines whose own boxes overlap the window (equality counts) and which are
-- global, or listed in a cell of the block from the cell of the window's lower corner to that of its upper corner, each once, increasing. On a
-- 0 by 0 grid the block is empty. A window with a corner out of order matches nothing." Definitions only.
use Rattle.refusals.specs.declared.Refusal.{Refusal}
use Rattle.std.specs.Prelude.{Ok, Err, Result, ◌≡◌, Bool, false, ◌&&◌, ◌||◌, List, [], ◌++◌, ℕ, zero, suc, ◌/◌, ◌%◌, leb, length}
use Rattle.std.specs.Float.Ieee.{le}
use Rattle.slices.specs.Lists.{elem}
use Rattle.refusals.specs.Refusals.{Check, unless, Answer, gives, ◌then◌, answer_by, left_in, zero_beyond}
use Rattle.grid.specs.declared.Grid.{Grid}
use Rattle.grid.specs.declared.Box.{Box}
use Rattle.grid.specs.Axes.{x_axis, y_axis, index_on}
use Rattle.grid.specs.Boxes.{box_of, overlaps}
use Rattle.grid.specs.Domain.{Lines, count, segment_at, point, lines_check, grid_check}
use Rattle.tables.specs.Tables.{Tables, cells, list_of, globals_of}
use Rattle.tables.specs.Lists.{only}
use Rattle.tables.specs.Fit.{tables_check}

-- ---- which lines

-- a window is a box; its corners are in order on both axes
unfoldable pub in_order : Box → Bool
in_order w = le w.min_x w.max_x && le w.min_y w.max_y

abbrev pub within : ℕ → ℕ → ℕ → Bool
within low high n = leb low n && leb n high

-- The cell c is in the block. In row order it is the column c % cols of the row c / cols; the cell of a corner is that of any point, clamped.
unfoldable pub in_block : Grid → Box → ℕ → Bool
in_block g w c =
    within (index_on (x_axis g) w.min_x) (index_on (x_axis g) w.max_x) (c % g.cols)
    && within (index_on (y_axis g) w.min_y) (index_on (y_axis g) w.max_y) (c / g.cols)

-- some number below n passes a test
unfoldable pub some : (ℕ → Bool) → ℕ → Bool
some test zero = false
some test (suc n) = some test n || test n

-- listed in a cell of the block; a 0 by 0 grid has no cells
unfoldable pub listed : Grid → Tables → Box → ℕ → Bool
listed g t w i = some (λ c. in_block g w c && elem i (list_of t c)) (cells t)

-- the sentence above, of the line i
unfoldable pub may_enter : Lines → Grid → Tables → Box → ℕ → Bool
may_enter ls g t w i = in_order w && (overlaps (box_of (segment_at ls i)) w && (elem i (globals_of t) || listed g t w i))

-- the numbers below n that pass a test, each once, increasing
unfoldable pub those : (ℕ → Bool) → ℕ → List ℕ
those test zero = []
those test (suc n) = those test n ++ only (test n) n

unfoldable pub lines_in : Lines → Grid → Tables → Box → List ℕ
lines_in ls g t w = those (may_enter ls g t w) (count ls)

-- ---- the answer

-- 1, of the window: the value is 0
unfoldable pub window_check : Box → Check
window_check w = unless (point w.min_x w.min_y && point w.max_x w.max_y) 1 0

-- 5: more lines than the output has room for; the value is their number
unfoldable pub output_room_check : List ℕ → ℕ → Check
output_room_check found room = unless (leb (length found) room) 5 (length found)

-- after refusals 3, 2, 1 of the lines, 1 of the window, 8, 10 and 5
unfoldable pub window_end : Lines → Grid → Tables → Box → ℕ → Answer (List ℕ)
window_end ls g t w room =
    lines_check ls
    then window_check w
    then grid_check g
    then tables_check t
    then output_room_check (lines_in ls g t w) room
    then gives (lines_in ls g t w)

-- how many there are, or the refusal that is due
unfoldable pub window_answer : Answer (List ℕ) → Result ℕ Refusal
window_answer end = answer_by Err (λ found. Ok (length found)) end

-- The promise: the answer, and what the output holds: the lines and zero beyond them, or what a refusal leaves.
pub record WindowIs (ls : Lines) (g : Grid) (t : Tables) (w : Box) (was : List ℕ) (r : Result ℕ Refusal) (now : List ℕ) : Type 0 where
  pub answer : r ≡ window_answer (window_end ls g t w (length was))
  pub left : now ≡ left_in 0 was (window_end ls g t w (length was)) (λ found. zero_beyond 0 (length was) found)
