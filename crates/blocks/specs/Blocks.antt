-- Document 02, 12: "Keep a summary beside the tables: for each block of 16 by 16 cells, edge blocks smaller, the number of items in it." Blocks are
-- numbered in row order, as cells are. Definitions only.
use Rattle.refusals.specs.declared.Refusal.{Refusal}
use Rattle.std.specs.Prelude.{Ok, Err, Result, ◌≡◌, Bool, cond, ◌&&◌, List, ℕ, suc, ◌+◌, ◌-◌, ◌*◌, ◌/◌, ◌%◌, ◌<◌, leb, eqb, length, get_or}
use Rattle.refusals.specs.Refusals.{Check, unless, Answer, gives, ◌then◌, answer_by, left_in, zero_beyond}
use Rattle.grid.specs.declared.Grid.{Grid}
use Rattle.grid.specs.Domain.{fit}
use Rattle.tables.specs.Tables.{Tables}
use Rattle.tables.specs.Fit.{every, standing_check}
use Rattle.tables.specs.Lists.{sum, tabulate}

-- ---- blocks

-- how many blocks lie along n cells: the last one may be smaller
unfoldable pub along : ℕ → ℕ
along n = (n + 15) / 16

-- the number of blocks, also of a grid that is unfit
unfoldable pub blocks : Grid → ℕ
blocks g = along g.rows * along g.cols

-- the block that holds the cell c, which is the column c % cols of the row c / cols
unfoldable pub block_of : ℕ → ℕ → ℕ
block_of cols c = c / cols / 16 * along cols + c % cols / 16

-- ---- what the offsets say

-- how many items the list of the cell c has: it ends at the next offset
abbrev pub told : List ℕ → ℕ → ℕ
told offsets c = get_or offsets (suc c) 0 - get_or offsets c 0

-- the items of the block b in those of its cells that are below n
unfoldable pub said_below : ℕ → List ℕ → ℕ → ℕ → ℕ
said_below cols offsets n b = sum (λ c. cond (eqb (block_of cols c) b) (told offsets c) 0) n

-- what the offsets say of the block b: the items of all its cells
abbrev pub said : Grid → List ℕ → ℕ → ℕ
said g offsets b = said_below g.cols offsets (g.rows * g.cols) b

-- the summary: the number of items of each block
unfoldable pub block_totals : Grid → List ℕ → List ℕ
block_totals g offsets = tabulate (said g offsets) (blocks g)

-- the tables' own summary: each number equals what the offsets say; what stands beyond the blocks does not count
pub record Own (g : Grid) (offsets summary : List ℕ) : Type 0 where
  pub at : (b : ℕ) → b < blocks g → get_or summary b 0 ≡ said g offsets b

-- the same as a test
unfoldable pub own : Grid → List ℕ → List ℕ → Bool
own g offsets summary = every (blocks g) (λ b. eqb (get_or summary b 0) (said g offsets b))

-- the offsets of all cells are there, and never fall
unfoldable pub rising : Grid → List ℕ → Bool
rising g offsets =
    leb (g.rows * g.cols + 1) (length offsets) && every (g.rows * g.cols) (λ c. leb (get_or offsets c 0) (get_or offsets (suc c) 0))

-- a summary of the offsets of a fit grid: each number is there, and equals what they say
unfoldable pub summary_of : Grid → List ℕ → List ℕ → Bool
summary_of g offsets summary = fit g && (rising g offsets && (leb (blocks g) (length summary) && own g offsets summary))

-- ---- making it

-- 3: a summary shorter than the blocks
unfoldable pub summary_check : Grid → ℕ → Check
summary_check g len = unless (leb (blocks g) len) 3 0

-- after refusals 3, 2, 8 and 10
unfoldable pub make_end : Grid → Tables → ℕ → Answer (List ℕ)
make_end g t len = summary_check g len then standing_check g t then gives (block_totals g t.offsets)

-- how many blocks there are, or the refusal that is due
unfoldable pub make_answer : Answer (List ℕ) → Result ℕ Refusal
make_answer end = answer_by Err (λ ns. Ok (length ns)) end

-- The promise: the answer, and what the summary holds: a number for each block and zero beyond them, or what a refusal leaves.
pub record MakeIs (g : Grid) (t : Tables) (was : List ℕ) (r : Result ℕ Refusal) (now : List ℕ) : Type 0 where
  pub answer : r ≡ make_answer (make_end g t (length was))
  pub left : now ≡ left_in 0 was (make_end g t (length was)) (λ ns. zero_beyond 0 (length was) ns)
