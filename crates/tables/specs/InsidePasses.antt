-- The states of the two passes that fill a table, when the lists have grown to f on their way to F. For who fills tables; a reader of tables needs
-- none of it. Definitions only.
use Rattle.std.specs.Prelude.{◌≡◌, cond, List, ℕ, ◌+◌, ◌≤◌, ◌<◌, ◌^◌, leb, length, get_or, take}
use Rattle.tables.specs.Lists.{Walks, lines_at, sum, start, items_of, offsets_of}

-- the scratch s holds the r cells of the line i, of n lines
pub record Line (W : ℕ → List ℕ) (n cells i : ℕ) (s : List ℕ) (r : ℕ) : Type 0 where
  pub walks : Walks W n cells
  pub in_lines : i < n
  pub lines_small : n < 2 ^ 32
  pub cells_small : cells < 2 ^ 32
  pub few : r < 2 ^ 32
  pub fits : r ≤ length s
  pub size : r ≡ length (W i)
  pub cells_are : take r s ≡ W i

-- the first pass: how long each list is
pub record Counted (f : ℕ → List ℕ) (offsets : List ℕ) : Type 0 where
  pub count_is : (c : ℕ) → get_or offsets c 0 ≡ length (f c)

-- the running sums of g up to n, and 0 beyond
unfoldable pub run_at : (ℕ → ℕ) → ℕ → ℕ → ℕ
run_at g n c = cond (leb c n) (sum g c) 0

-- the second pass: the write pointer of each cell stands past what is put, which is f, and beyond all lists there is 0
pub record Placed (F : ℕ → List ℕ) (cells : ℕ) (f : ℕ → List ℕ) (offsets items : List ℕ) : Type 0 where
  pub ptr : (c : ℕ) → get_or offsets c 0 ≡ run_at (λ c. length (F c)) cells c + length (f c)
  pub put : (c k : ℕ) → k < length (f c) → get_or items (start F c + k) 0 ≡ get_or (f c) k 0
  pub rest : (p : ℕ) → start F cells ≤ p → get_or items p 0 ≡ 0

-- the table of the lists F: each list in its place, one after another, and zero beyond
pub record Table (F : ℕ → List ℕ) (cells : ℕ) (offsets items : List ℕ) : Type 0 where
  pub items_are : items ≡ items_of F cells (length items)
  pub offsets_are : offsets ≡ offsets_of F cells (length offsets)

-- the first n of s are the cells of some line, and the lines before it are counted
pub record CanCount (o s : List ℕ) (n : ℕ) : Type 0 where
  pub W : ℕ → List ℕ
  pub lines : ℕ
  pub cells : ℕ
  pub i : ℕ
  pub line : Line W lines cells i s n
  pub room : cells ≤ length o
  pub counted : Counted (lines_at W i) o

-- the first n of s are the cells of the line i, and the lines before it are placed
pub record CanPlace (i : ℕ) (o t s : List ℕ) (n : ℕ) : Type 0 where
  pub W : ℕ → List ℕ
  pub lines : ℕ
  pub cells : ℕ
  pub line : Line W lines cells i s n
  pub room : cells < length o
  pub space : start (lines_at W lines) cells ≤ length t
  pub small : start (lines_at W lines) cells < 2 ^ 32
  pub placed : Placed (lines_at W lines) cells (lines_at W i) o t
