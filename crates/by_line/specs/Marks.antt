-- The mark of a line: a number whose bits say which of a few cells are among the first cells of the line. Definitions only.
use Rattle.std.specs.Prelude.{ℕ, zero, suc, ◌-◌, ◌^◌, ◌<◌, ◌≡◌, cond, List, leb, ltb, eqb, length, get_or}
use Rattle.std.specs.Int.Bits.{bit_or}
use Rattle.by_line.specs.First.{front_of}

-- the place of a cell's bit: 31 is that of the cell `before`, k that of the cell low + k, below 31; 0 is that of all others
unfoldable pub bit_place : ℕ → ℕ → ℕ → ℕ
bit_place before low cell = cond (leb cell low) 0 (cond (eqb cell before) 31 (cond (ltb (cell - low) 31) (cell - low) 0))

-- the bit of a cell
unfoldable pub bit_of : ℕ → ℕ → ℕ → ℕ
bit_of before low cell = 2 ^ bit_place before low cell

-- the bits of the first i of a list, from the last back to one that is not above `low`, and those of m
unfoldable pub bits_back : List ℕ → ℕ → ℕ → ℕ → ℕ → ℕ
bits_back cells before low zero m = m
bits_back cells before low (suc i) m =
    let m' = bit_or m (bit_of before low (get_or cells i 0)) in cond (leb (get_or cells i 0) low) m' (bits_back cells before low i m')

-- THE MARK OF A LINE, of lists by line and how many of each list's cells were visited
unfoldable pub mark_of : ℕ → ℕ → ℕ → List ℕ → List ℕ → List ℕ → ℕ
mark_of line before low starts listing counts = let cells = front_of line starts listing counts in bits_back cells before low (length cells) 0

-- 1 where there is room for a mark for each line of a list, else 0
abbrev pub sure_of : List ℕ → List ℕ → ℕ
sure_of list marks = cond (leb (length list) (length marks)) 1 0

-- the answer r, and the marks before and after: where there is room for all, the mark of each line of a list stands at its position; any other entry is as
-- it was
pub record MarksAre (list : List ℕ) (before low : ℕ) (starts listing counts marks : List ℕ) (r : ℕ) (marks' : List ℕ) : Type 0 where
  pub answers : r ≡ sure_of list marks
  pub long : length marks' ≡ length marks
  pub marked : r ≡ 1 → (j : ℕ) → j < length list → get_or marks' j 0 ≡ mark_of (get_or list j 0) before low starts listing counts
  pub rest : (j : ℕ) → (r ≡ 1 → j < length list → ⊥) → get_or marks' j 0 ≡ get_or marks j 0
