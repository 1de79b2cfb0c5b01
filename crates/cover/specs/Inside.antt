-- What the private functions ask of one another and promise. Definitions only.
use Rattle.std.specs.Prelude.{◌≡◌, List, ◌++◌, ℕ, ◌+◌, ◌-◌, ◌*◌, ◌≤◌, ◌<◌, length, take}
use Rattle.cover.specs.declared.Ends.{Ends}
use Rattle.cover.specs.Rule.{slope_of, first_row, last_row, first_col, last_col}

-- ys has `more` after the first n of xs, r in all
pub record Appended (xs ys : List ℕ) (n r : ℕ) (more : List ℕ) : Type 0 where
  pub len : length ys ≡ length xs
  pub count : r ≡ n + length more
  pub within : r ≤ length ys
  pub is : take r ys ≡ take n xs ++ more

-- the n cells of a list stand at the front of s
pub record Front (cells s : List ℕ) (n : ℕ) : Type 0 where
  pub count : n ≡ length cells
  pub is : take n s ≡ cells

-- ---- the ends

-- each coordinate has 32 bits
pub record Small (e : Ends) : Type 0 where
  pub from_x : e.from_x < 4294967296
  pub from_y : e.from_y < 4294967296
  pub to_x : e.to_x < 4294967296
  pub to_y : e.to_y < 4294967296

-- s is the slope of a line that rises, and y a height of it
pub record Across (e : Ends) (s y : ℕ) : Type 0 where
  pub small : Small e
  pub steep : e.from_y < e.to_y
  pub slope_is : s ≡ slope_of e
  pub from : e.from_y ≤ y
  pub to : y ≤ e.to_y

-- ---- the line on a grid of so many columns and rows, with a scratch of so many entries

pub record Frame (cols rows : ℕ) (e : Ends) (room : ℕ) : Type 0 where
  pub small : Small e
  pub up : e.from_y ≤ e.to_y
  pub some_rows : 0 < rows
  pub few_rows : rows < 4096
  pub some_cols : 0 < cols
  pub few_cols : cols < 4096
  pub holds : 2 * cols + 2 * rows + 8 ≤ room

-- both ends are in the row r
pub record Level (cols rows : ℕ) (e : Ends) (r room : ℕ) : Type 0 where
  pub frame : Frame cols rows e room
  pub first_is : r ≡ first_row rows e
  pub one_row : last_row rows e ≤ r

-- they are in two rows
pub record Rises (cols rows : ℕ) (e : Ends) (first last room : ℕ) : Type 0 where
  pub frame : Frame cols rows e room
  pub first_is : first ≡ first_row rows e
  pub last_is : last ≡ last_row rows e
  pub rises : first < last

-- the row r of such a line, whose slope is s
pub record CoveredRow (cols rows : ℕ) (e : Ends) (s last r : ℕ) : Type 0 where
  pub small : Small e
  pub up : e.from_y ≤ e.to_y
  pub some_rows : 0 < rows
  pub few_rows : rows < 4096
  pub some_cols : 0 < cols
  pub few_cols : cols < 4096
  pub slope_is : s ≡ slope_of e
  pub last_is : last ≡ last_row rows e
  pub rises : first_row rows e < last_row rows e
  pub from : first_row rows e ≤ r
  pub to : r ≤ last_row rows e

-- its columns
pub record ColumnsAre (cols rows : ℕ) (e : Ends) (r first last : ℕ) : Type 0 where
  pub first_is : first ≡ first_col cols rows e r
  pub last_is : last ≡ last_col cols rows e r

-- room for the cells from the column `first` to the column `last` of the row r, in a scratch of so many entries with n written
pub record RowRoom (cols r first last n room : ℕ) : Type 0 where
  pub eight : n + 8 ≤ room
  pub all : n + (last + 1 - first) ≤ room
  pub few : r * cols + first + (last + 1 - first) < 16777216
  pub narrow : last < 4096
