-- What the private functions of the query promise: marks, which are 1 for each line that is met, and what is written of the lines. Definitions
-- only.
use Rattle.std.specs.Prelude.{◌≡◌, Bool, true, false, cond, ◌&&◌, List, [], ◌∷◌, ℕ, zero, suc, ◌+◌, ◌*◌, ◌≤◌, ◌<◌, eqb, length, get_or, set}
use Rattle.std.proofs.Math.Seq.{slice}
use Rattle.grid.specs.declared.Grid.{Grid}
use Rattle.grid.specs.declared.Box.{Box}
use Rattle.grid.specs.Boxes.{box_of, overlaps}
use Rattle.grid.specs.Domain.{Lines, Alike, count, segment_at, fit}
use Rattle.tables.specs.Tables.{Tables}
use Rattle.tables.specs.Fit.{ListsFit, TablesFit}

-- ---- marks

-- marks, and those of the lines of a list
unfoldable pub marked_with : List ℕ → List ℕ → List ℕ
marked_with [] marks = marks
marked_with (i ∷ is) marks = marked_with is (set marks i 1)

-- the lists of the columns from `first` to `last` of a row stand side by side in the items
unfoldable pub row_part : ℕ → List ℕ → List ℕ → ℕ → ℕ → ℕ → List ℕ
row_part cols offsets items first last row =
    slice (get_or offsets (row * cols + first) 0) (get_or offsets (row * cols + last + 1) 0) items

-- marks, and those of the lines in these columns of `left` rows from `row` on
unfoldable pub marked_rows : ℕ → List ℕ → List ℕ → ℕ → ℕ → ℕ → ℕ → List ℕ → List ℕ
marked_rows cols offsets items first last zero row marks = marks
marked_rows cols offsets items first last (suc left) row marks =
    marked_rows cols offsets items first last left (suc row) (marked_with (row_part cols offsets items first last row) marks)

-- the columns and the rows of a block are there, its lists fit, and there is a mark for each line
pub record Block (cols : ℕ) (offsets items : List ℕ) (first last below : ℕ) (marks : List ℕ) : Type 0 where
  pub all_rows : ℕ
  pub all_lines : ℕ
  pub lists : ListsFit (all_rows * cols) all_lines offsets items
  pub long : all_rows * cols + 1 ≤ length offsets
  pub few : all_rows * cols ≤ 1002001
  pub order : first ≤ last
  pub inside : last < cols
  pub rows_there : below ≤ all_rows
  pub room : all_lines ≤ length marks

-- the marks of a query: those lines are marked that were, and those that pass the test
pub record LinesMarked (test : ℕ → Bool) (was now : List ℕ) : Type 0 where
  pub len : length now ≡ length was
  pub at : (i : ℕ) → i < length was → get_or now i 0 ≡ cond (test i) 1 (get_or was i 0)

-- ---- lines

-- the line i is marked, and its box overlaps the window
unfoldable pub met : Lines → Box → List ℕ → ℕ → Bool
met ls w marks i = overlaps (box_of (segment_at ls i)) w && eqb (get_or marks i 0) 1

-- a list written over the start of another, as far as there is room
unfoldable pub list_written : List ℕ → List ℕ → List ℕ
list_written [] was = was
list_written (x ∷ xs) [] = []
list_written (x ∷ xs) (y ∷ was) = x ∷ list_written xs was

-- the lines that were found are counted, and written as far as there is room
pub record Wrote (found was : List ℕ) (r : ℕ) (now : List ℕ) : Type 0 where
  pub counted : r ≡ length found
  pub left : now ≡ list_written found was

abbrev pub count_if : Bool → ℕ → ℕ
count_if true n = suc n
count_if false n = n

abbrev pub set_if : Bool → List ℕ → ℕ → ℕ → List ℕ
set_if true xs n v = set xs n v
set_if false xs n v = xs

-- one more, where the test holds
pub record WroteOne (b : Bool) (i n : ℕ) (was : List ℕ) (r : ℕ) (now : List ℕ) : Type 0 where
  pub counted : r ≡ count_if b n
  pub left : now ≡ set_if b was n i

-- lines that a query goes through: the slices have one length, and there is a mark for each
pub record Askable (ls : Lines) (marks : List ℕ) : Type 0 where
  pub alike : Alike ls
  pub few : count ls ≤ 65536
  pub room : count ls ≤ length marks

-- all that the checks find
pub record WindowChecked (ls : Lines) (g : Grid) (t : Tables) : Type 0 where
  pub alike : Alike ls
  pub few : count ls ≤ 65536
  pub grid_fit : fit g ≡ true
  pub tables_fit_lem : TablesFit t
