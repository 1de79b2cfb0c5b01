-- The promise of the exported function. Where `out` has the words of a result, words say a grid and a number names a mode of walk, the entry is called,
-- and its own promise holds of the lent slices; else they stay as they were. Definitions only.
use Rattle.std.specs.Prelude.{Err, ℕ, ◌≤◌, ◌<◌, ◌≡◌, List, length}
use Rattle.refusals.specs.Refusals.{Answer, answer_by}
use Rattle.grid.specs.declared.Segment.{Segment}
use Rattle.grid.specs.Words.{grid_words, grid_by}
use Rattle.tables.specs.Tables.{Tables}
use Rattle.added.specs.Added.{added_of}
use Rattle.blocks_added.specs.Beside.{beside_end, BesideIs}
use Rattle.replies.specs.Replies.{Replies}
use Rattle.capi.specs.Few.{unless_few}
use Rattle.capi.specs.Unknown.{mode_by, last_mode, unless_unwalked}
use Rattle.capi_added.specs.Lent.{of_added}

-- how the call ends, on the grid that words say, in the mode that a number names
abbrev pub beside_by : List ℕ → ℕ → Segment → Tables → List ℕ → List ℕ → Answer (List ℕ)
beside_by words mode line t summary scratch = beside_end (mode_by mode) (grid_by words) line t summary (length scratch)

-- every slice is as it was
pub record Kept (t : Tables) (summary scratch offsets' items' globals' summary' scratch' : List ℕ) : Type 0 where
  pub offsets : offsets' ≡ t.offsets
  pub items : items' ≡ t.items
  pub globals : globals' ≡ t.globals
  pub summary_is : summary' ≡ summary
  pub scratch_is : scratch' ≡ scratch

pub record BesideReplies (words : List ℕ) (mode : ℕ) (line : Segment) (t : Tables) (summary scratch out : List ℕ) (r : ℕ) (offsets' items' globals' summary' scratch' out' : List ℕ) : Type 0 where
  pub replies : Replies 3 (unless_few words (unless_unwalked mode (of_added (answer_by Err (added_of t) (beside_by words mode line t summary scratch))))) out r out'
  pub called : 3 ≤ length out → grid_words ≤ length words → mode ≤ last_mode
      → BesideIs (mode_by mode) (grid_by words) line t summary scratch (answer_by Err (added_of t) (beside_by words mode line t summary scratch)) offsets' items' globals' summary' scratch'
  pub short : length out < 3 → Kept t summary scratch offsets' items' globals' summary' scratch'
  pub few : length words < grid_words → Kept t summary scratch offsets' items' globals' summary' scratch'
  pub unwalked : last_mode < mode → Kept t summary scratch offsets' items' globals' summary' scratch'
