-- The promises of the exported summary and its query. Where `out` has a word and words say a grid, the entry is called, and its own promise holds of
-- the summary; else that stays as it was. Definitions only.
use Rattle.std.specs.Prelude.{Ok, Err, Result, ℕ, ◌≤◌, ◌<◌, ◌≡◌, List, [], ◌∷◌, length}
use Rattle.refusals.specs.declared.Refusal.{Refusal}
use Rattle.grid.specs.declared.Grid.{Grid}
use Rattle.grid.specs.Words.{grid_words}
use Rattle.tables.specs.Tables.{Tables}
use Rattle.blocks.specs.declared.Block.{Block}
use Rattle.blocks.specs.Blocks.{make_end, make_answer, MakeIs}
use Rattle.replies.specs.Replies.{Reply, Replies, success, refusing}
use Rattle.capi.specs.Few.{unless_few}

-- a block by its row and its column of blocks
abbrev pub block_by : ℕ → ℕ → Block
block_by row col = record { row = row; col = col }

-- how many blocks there are; their numbers are in their slice
unfoldable pub of_made : Result ℕ Refusal → Reply
of_made (Ok n) = success (n ∷ [])
of_made (Err r) = refusing r

-- how many items there are
unfoldable pub of_count : Result ℕ Refusal → Reply
of_count (Ok n) = success (n ∷ [])
of_count (Err r) = refusing r

pub record MakeReplies (words : List ℕ) (g : Grid) (t : Tables) (summary out : List ℕ) (r : ℕ) (summary' out' : List ℕ) : Type 0 where
  pub replies : Replies 1 (unless_few words (of_made (make_answer (make_end g t (length summary))))) out r out'
  pub called : 1 ≤ length out → grid_words ≤ length words → MakeIs g t summary (make_answer (make_end g t (length summary))) summary'
  pub short : length out < 1 → summary' ≡ summary
  pub few : length words < grid_words → summary' ≡ summary
