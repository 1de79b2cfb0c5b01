-- The promise of the exported batch with places. Where `out` has three words and words say a grid, the entry is called, and its own promise holds
-- of the outputs and the places; else these stay as they were. Definitions only.
use Rattle.std.specs.Prelude.{Result, ℕ, ◌≤◌, ◌<◌, ◌≡◌, List, length}
use Rattle.refusals.specs.declared.Refusal.{Refusal}
use Rattle.visit.specs.declared.Tally.{Tally}
use Rattle.grid.specs.declared.Grid.{Grid}
use Rattle.grid.specs.Domain.{Lines}
use Rattle.grid.specs.Words.{grid_words}
use Rattle.tables.specs.Tables.{Tables}
use Rattle.visit.specs.Entries.{batch_of, placed_tests, PlacedBatchIs}
use Rattle.replies.specs.Replies.{Replies}
use Rattle.replies.specs.Answers.{of_batch}
use Rattle.capi.specs.Few.{unless_few}

-- what a batch with places answers
abbrev pub places_answer : Lines → Grid → Tables → ℕ → List ℕ → List ℕ → List ℕ → Result Tally Refusal
places_answer ls g t b first second places = batch_of ls b (length first) (placed_tests ls g t b first second places)

-- from the bookmark b, on the grid g that words say
pub record PlacesReplies (words : List ℕ) (ls : Lines) (g : Grid) (t : Tables) (b : ℕ) (first second places out : List ℕ) (r : ℕ) (first' second' places' out' : List ℕ) : Type 0 where
  pub replies : Replies 3 (unless_few words (of_batch (places_answer ls g t b first second places))) out r out'
  pub called : 3 ≤ length out → grid_words ≤ length words → PlacedBatchIs ls g t b first second places first' second' places' (places_answer ls g t b first second places)
  pub short : length out < 3 → (first' ≡ first) × (second' ≡ second) × (places' ≡ places)
  pub few : length words < grid_words → (first' ≡ first) × (second' ≡ second) × (places' ≡ places)
