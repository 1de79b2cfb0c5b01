-- The promises of exported functions that are lent slices to write beside `out`. Where `out` has the words of a result, words say a grid and a number names
-- a mode of walk, the entry is called, and its own promise holds of those slices; else they stay as they were. Definitions only.
use Rattle.std.specs.Prelude.{ℕ, ◌≤◌, ◌<◌, ◌≡◌, List, length}
use Rattle.refusals.specs.Refusals.{Answer}
use Rattle.grid.specs.declared.Grid.{Grid}
use Rattle.grid.specs.Domain.{Lines}
use Rattle.grid.specs.Words.{grid_words, grid_by}
use Rattle.fill.specs.Fill.{count_of}
use Rattle.counts.specs.OnGrid.{counted_of, CountingIs, tables_of, tabled_of, TablesAre}
use Rattle.counts.specs.Adding.{add_check, SumIs}
use Rattle.replies.specs.Replies.{Replies}
use Rattle.replies.specs.Answers.{of_check}
use Rattle.capi.specs.Few.{unless_few}
use Rattle.capi.specs.Unknown.{mode_by, last_mode, unless_unwalked}
use Rattle.capi_counts.specs.Answers.{of_counted, of_tabled}

-- ---- the count, on the grid that words say, in the mode that a number names

abbrev pub count_call_end : List ℕ → ℕ → Lines → List ℕ → List ℕ → Answer ℕ
count_call_end words mode ls counts scratch = count_of (mode_by mode) (grid_by words) ls (length counts) (length scratch)

pub record CountReplies (words : List ℕ) (mode : ℕ) (ls : Lines) (counts scratch out : List ℕ) (r : ℕ) (counts' scratch' out' : List ℕ) : Type 0 where
  pub replies : Replies 2 (unless_few words (unless_unwalked mode (of_counted (counted_of (mode_by mode) (grid_by words) ls (count_call_end words mode ls counts scratch))))) out r out'
  pub called :
      let a = count_call_end words mode ls counts scratch in
      2 ≤ length out → grid_words ≤ length words → mode ≤ last_mode → CountingIs (mode_by mode) (grid_by words) ls counts scratch (counted_of (mode_by mode) (grid_by words) ls a) counts' scratch' a
  pub short : length out < 2 → (counts' ≡ counts) × (scratch' ≡ scratch)
  pub few : length words < grid_words → (counts' ≡ counts) × (scratch' ≡ scratch)
  pub unwalked : last_mode < mode → (counts' ≡ counts) × (scratch' ≡ scratch)

-- ---- adding

pub record AddReplies (a b out : List ℕ) (r : ℕ) (a' out' : List ℕ) : Type 0 where
  pub replies : Replies 1 (of_check (add_check a b)) out r out'
  pub called : 1 ≤ length out → SumIs a b (add_check a b) a'
  pub short : length out < 1 → a' ≡ a

-- ---- tables, on the grid that words say, in the mode that a number names

abbrev pub tables_end : List ℕ → ℕ → Lines → List ℕ → List ℕ → List ℕ → List ℕ → Answer Grid
tables_end words mode ls offsets items globals scratch = tables_of (mode_by mode) (grid_by words) ls (length offsets) (length items) (length globals) (length scratch)

pub record TablesReplies (words : List ℕ) (mode : ℕ) (ls : Lines) (offsets items globals scratch out : List ℕ) (r : ℕ) (offsets' items' globals' scratch' out' : List ℕ) : Type 0 where
  pub replies : Replies 2 (unless_few words (unless_unwalked mode (of_tabled (tabled_of (mode_by mode) ls (tables_end words mode ls offsets items globals scratch))))) out r out'
  pub called :
      let a = tables_end words mode ls offsets items globals scratch in
      2 ≤ length out → grid_words ≤ length words → mode ≤ last_mode → TablesAre (mode_by mode) (grid_by words) ls offsets items globals scratch (tabled_of (mode_by mode) ls a) offsets' items' globals' scratch' a
  pub short : length out < 2 → (offsets' ≡ offsets) × (items' ≡ items) × (globals' ≡ globals) × (scratch' ≡ scratch)
  pub few : length words < grid_words → (offsets' ≡ offsets) × (items' ≡ items) × (globals' ≡ globals) × (scratch' ≡ scratch)
  pub unwalked : last_mode < mode → (offsets' ≡ offsets) × (items' ≡ items) × (globals' ≡ globals) × (scratch' ≡ scratch)
