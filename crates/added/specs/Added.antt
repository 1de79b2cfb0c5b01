-- Document 02, 11: a line, numbered n, is added to the standing tables of n lines at their standing grid: what the tables hold then, what is refused,
-- and what is left in each lent slice. Definitions only.
use Rattle.refusals.specs.declared.Refusal.{Refusal}
use Rattle.std.specs.Prelude.{Ok, Err, Result, ◌≡◌, Bool, ◌&&◌, List, ◌++◌, ℕ, leb, ltb, Float, length, replicate}
use Rattle.std.specs.Float.Ieee.{le}
use Rattle.slices.specs.Lists.{elem}
use Rattle.refusals.specs.Refusals.{Check, unless, and_then, Answer, gives, ◌then◌, ◌into◌, answer_by, left_in, zero_beyond}
use Rattle.grid.specs.declared.Grid.{Grid}
use Rattle.grid.specs.declared.Axis.{Axis}
use Rattle.grid.specs.declared.Segment.{Segment}
use Rattle.grid.specs.Axes.{x_axis, y_axis, low_on}
use Rattle.grid.specs.Domain.{fit, scratch_check, segment_check}
use Rattle.walk.specs.declared.Mode.{Mode}
use Rattle.walk.specs.Segment.{segment_of}
use Rattle.tables.specs.Tables.{Tables, cells, list_of, globals_of}
use Rattle.tables.specs.Lists.{long, none_if, only, start, items_of, offsets_of}
use Rattle.tables.specs.Fit.{tables_check}
use Rattle.added.specs.declared.Added.{Added}

-- ---- what the tables hold then

-- the cells that list the line: those that its walk visits, and none if they are more than 2,048
unfoldable pub listing : List ℕ → List ℕ
listing visited = none_if (long visited) visited

-- "Its number goes at the end of the list of each cell its walk visits [..]; all other lists keep their entries." The number is that of the lines so far.
unfoldable pub list_with : Tables → List ℕ → ℕ → List ℕ
list_with t visited c = list_of t c ++ only (elem c (listing visited)) t.lines

-- "or of the globals if those are more than 2,048"
unfoldable pub globals_with : Tables → List ℕ → List ℕ
globals_with t visited = globals_of t ++ only (long visited) t.lines

-- the new number of items
unfoldable pub total_with : Tables → List ℕ → ℕ
total_with t visited = start (list_with t visited) (cells t)

-- ---- the refusals

-- 2: n is not below 65,536
unfoldable pub below_check : ℕ → Check
below_check n = unless (ltb n 65536) 2 n

-- 8: grid record unfit, 0 by 0 included
unfoldable pub cells_check : Grid → Check
cells_check g = unless (fit g && ltb 0 g.cols) 8 0

-- from min to min + count x cell size, both included; each step rounds once, the product first
unfoldable pub inside_on : Axis → Float → Bool
inside_on a v = le a.low v && le v (low_on a a.count)

unfoldable pub point_inside : Grid → Float → Float → Bool
point_inside g x y = inside_on (x_axis g) x && inside_on (y_axis g) y

unfoldable pub line_inside : Grid → Segment → Bool
line_inside g line = point_inside g line.start_x line.start_y && point_inside g line.end_x line.end_y

-- 14: an endpoint below min, or above min + cols x cell width; rows alike
unfoldable pub edge_check : Grid → Segment → Check
edge_check g line = unless (line_inside g line) 14 0

-- 3, 2, 1, 8, 10
unfoldable pub ask_check : Grid → Segment → Tables → ℕ → Check
ask_check g line t scratch =
    and_then (scratch_check scratch) (and_then (below_check t.lines) (and_then (segment_check line) (and_then (cells_check g) (tables_check t))))

-- 5: items lent are fewer than the new total, or an offset of 32 bits does not hold it; then 6: globals lent are fewer than there will be
unfoldable pub space_with_check : Tables → List ℕ → Check
space_with_check t visited =
    and_then (unless (leb (total_with t visited) (length t.items) && leb (total_with t visited) 4294967295) 5 (total_with t visited))
    (unless (leb (length (globals_with t visited)) (length t.globals)) 6 (length (globals_with t visited)))

-- 7, 5, 6; else the cells that the line visits
unfoldable pub room_for : Mode → Grid → Segment → Tables → Answer (List ℕ)
room_for mode g line t = segment_of mode g line into λ visited. space_with_check t visited then gives visited

-- 3, 2, 1, 8, 10; then 14; then 7, 5, 6
unfoldable pub add_end : Mode → Grid → Segment → Tables → ℕ → Answer (List ℕ)
add_end mode g line t scratch = ask_check g line t scratch then edge_check g line then room_for mode g line t

-- ---- what is answered, and what is left

-- how many cells list the line, and how many items and global lines there are now
unfoldable pub added_of : Tables → List ℕ → Result Added Refusal
added_of t visited = Ok (record { cells = length (listing visited); items = total_with t visited; globals = length (globals_with t visited) })

-- no refusal changes the tables: what a part of them holds that held `was`
unfoldable pub kept_in : List ℕ → Answer (List ℕ) → (List ℕ → List ℕ) → List ℕ
kept_in was end puts = answer_by (λ _. was) puts end

-- what success leaves in the scratch: zeros, or at its front the cells that list the line
unfoldable pub cleared : List ℕ → List ℕ → List ℕ
cleared was visited = replicate (length was) 0

unfoldable pub front : List ℕ → List ℕ → List ℕ
front was visited = zero_beyond 0 (length was) (listing visited)

-- The promise: the answer, the tables with the line in its lists and zero beyond them, and the scratch, which 5, 6 and 7 leave zero.
pub record AddIs (t : Tables) (end : Answer (List ℕ)) (scratch : List ℕ) (left : List ℕ → List ℕ) (r : Result Added Refusal) (offsets' items' globals' scratch' : List ℕ) : Type 0 where
  pub answer : r ≡ answer_by Err (added_of t) end
  pub offsets_are : offsets' ≡ kept_in t.offsets end (λ visited. offsets_of (list_with t visited) (cells t) (length t.offsets))
  pub items_are : items' ≡ kept_in t.items end (λ visited. items_of (list_with t visited) (cells t) (length t.items))
  pub globals_are : globals' ≡ kept_in t.globals end (λ visited. zero_beyond 0 (length t.globals) (globals_with t visited))
  pub scratch_is : scratch' ≡ left_in 0 scratch end left
