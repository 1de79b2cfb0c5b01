-- What the private functions ask and promise. Definitions only.
use Rattle.std.specs.Prelude.{◌≡◌, cond, List, ℕ, ◌+◌, ◌≤◌, ◌<◌, ◌^◌, eqb, length, get_or}
use Rattle.refusals.specs.Refusals.{Check, unless, and_then}
use Rattle.grid.specs.declared.Grid.{Grid}
use Rattle.grid.specs.declared.Segment.{Segment}
use Rattle.grid.specs.Domain.{scratch_check, segment_check}
use Rattle.tables.specs.Lists.{sum}
use Rattle.blocks.specs.Blocks.{block_of, summary_of, summary_check}
use Rattle.added.specs.Added.{below_check, cells_check}

-- what is checked before the tables are: 3, 2, 1, 8, and 10 where the summary is not that of the offsets
unfoldable pub first_check : Grid → Segment → ℕ → List ℕ → List ℕ → ℕ → Check
first_check g line n offsets summary scratch =
    and_then (summary_check g (length summary))
    (and_then (scratch_check scratch)
    (and_then (below_check n) (and_then (segment_check line) (and_then (cells_check g) (unless (summary_of g offsets summary) 10 0)))))

-- how many of the first n cells of a list are in the block b
unfoldable pub among_below : ℕ → List ℕ → ℕ → ℕ → ℕ
among_below cols cells n b = sum (λ k. cond (eqb (block_of cols (get_or cells k 0)) b) 1 0) n

-- the block of each cell has a number, to which as many as there are cells can be added
pub record RaiseAsks (cols : ℕ) (cells summary : List ℕ) : Type 0 where
  pub some : 0 < cols
  pub blocks : ℕ
  pub room : blocks ≤ length summary
  pub inside : (k : ℕ) → k < length cells → block_of cols (get_or cells k 0) < blocks
  pub small : (b : ℕ) → b < blocks → get_or summary b 0 + length cells < 2 ^ 32

-- each number is larger by the cells that are in its block
pub record Raised (cols : ℕ) (cells was now : List ℕ) : Type 0 where
  pub len : length now ≡ length was
  pub at : (b : ℕ) → get_or now b 0 ≡ get_or was b 0 + among_below cols cells (length cells) b
