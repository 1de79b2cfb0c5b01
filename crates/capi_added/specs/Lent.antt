-- The promise of the exported function, with its answer in numbers. Where `out` has the words of a result, words say a grid and a number names a mode of
-- walk, the entry is called, and its own promise holds of the lent slices; else they stay as they were. Definitions only.
use Rattle.std.specs.Prelude.{Ok, Err, Result, ℕ, ◌≤◌, ◌<◌, ◌≡◌, List, [], ◌∷◌, length}
use Rattle.refusals.specs.declared.Refusal.{Refusal}
use Rattle.refusals.specs.Refusals.{Answer, answer_by}
use Rattle.grid.specs.declared.Segment.{Segment}
use Rattle.grid.specs.Words.{grid_words, grid_by}
use Rattle.tables.specs.Tables.{Tables}
use Rattle.added.specs.declared.Added.{Added}
use Rattle.added.specs.Added.{add_end, added_of, cleared, AddIs}
use Rattle.replies.specs.Replies.{Reply, Replies, success, refusing}
use Rattle.capi.specs.Few.{unless_few}
use Rattle.capi.specs.Unknown.{mode_by, last_mode, unless_unwalked}

-- the new numbers of items and of globals, and how many cells list the line; the tables are in their slices
unfoldable pub of_added : Result Added Refusal → Reply
of_added (Ok n) = success (n.items ∷ n.globals ∷ n.cells ∷ [])
of_added (Err r) = refusing r

-- how the call ends, on the grid that words say, in the mode that a number names
abbrev pub line_end : List ℕ → ℕ → Segment → Tables → List ℕ → Answer (List ℕ)
line_end words mode line t scratch = add_end (mode_by mode) (grid_by words) line t (length scratch)

pub record AddedReplies (words : List ℕ) (mode : ℕ) (line : Segment) (t : Tables) (scratch out : List ℕ) (r : ℕ) (offsets' items' globals' scratch' out' : List ℕ) : Type 0 where
  pub replies : Replies 3 (unless_few words (unless_unwalked mode (of_added (answer_by Err (added_of t) (line_end words mode line t scratch))))) out r out'
  pub called :
      let a = line_end words mode line t scratch in
      3 ≤ length out → grid_words ≤ length words → mode ≤ last_mode → AddIs t a scratch (cleared scratch) (answer_by Err (added_of t) a) offsets' items' globals' scratch'
  pub short : length out < 3 → (offsets' ≡ t.offsets) × (items' ≡ t.items) × (globals' ≡ t.globals) × (scratch' ≡ scratch)
  pub few : length words < grid_words → (offsets' ≡ t.offsets) × (items' ≡ t.items) × (globals' ≡ t.globals) × (scratch' ≡ scratch)
  pub unwalked : last_mode < mode → (offsets' ≡ t.offsets) × (items' ≡ t.items) × (globals' ≡ t.globals) × (scratch' ≡ scratch)
