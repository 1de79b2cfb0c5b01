-- The promises of exported functions that are lent slices to write beside `out`. Where `out` has the words of a result, the entry is called, and
-- its own promise holds of those slices; where it is short, they stay as they were, and so they do where words are too few to say a grid or a number names no sizing or no mode
-- of walk.
-- Definitions only.
use Rattle.std.specs.Prelude.{ℕ, ◌≤◌, ◌<◌, ◌≡◌, List, Float, length}
use Rattle.refusals.specs.Refusals.{Answer}
use Rattle.grid.specs.Domain.{Lines}
use Rattle.grid.specs.declared.Grid.{Grid}
use Rattle.grid.specs.Words.{grid_words}
use Rattle.tables.specs.Tables.{Tables}
use Rattle.turns.specs.Pushes.{Outcome}
use Rattle.walk.specs.Segment.{cells_of, Entered}
use Rattle.build.specs.Build as build
use Rattle.own.specs.Many.{owners_check, OwnersAre}
use Rattle.visit.specs.Entries.{batch_answer, BatchIs}
use Rattle.replies.specs.Replies.{Replies}
use Rattle.replies.specs.Answers.{of_check, of_cells, of_built, of_batch}
use Rattle.capi.specs.Few.{unless_few}
use Rattle.capi.specs.Unknown.{last_sizing, mode_by, last_mode, plan_by, unless_unknown, unless_unwalked}

-- the walk of one segment on the grid that words say, in the mode that a number names, whose outcome is o
pub record WalkReplies (words : List ℕ) (mode : ℕ) (o : Outcome) (scratch out : List ℕ) (r : ℕ) (scratch' out' : List ℕ) : Type 0 where
  pub replies : Replies 1 (unless_few words (unless_unwalked mode (of_cells (cells_of o)))) out r out'
  pub called : 1 ≤ length out → grid_words ≤ length words → mode ≤ last_mode → Entered o scratch (cells_of o) scratch'
  pub short : length out < 1 → scratch' ≡ scratch
  pub few : length words < grid_words → scratch' ≡ scratch
  pub unwalked : last_mode < mode → scratch' ≡ scratch

-- what a build into these slices ends in, in the sizing and the mode of walk that numbers name
abbrev pub build_end : ℕ → ℕ → Lines → List ℕ → List ℕ → List ℕ → List ℕ → Answer Grid
build_end sizing mode ls offsets items globals scratch = build.end_of (plan_by sizing mode) ls (length offsets) (length items) (length globals) (length scratch)

pub record BuildReplies (sizing mode : ℕ) (ls : Lines) (offsets items globals scratch out : List ℕ) (r : ℕ) (offsets' items' globals' scratch' out' : List ℕ) : Type 0 where
  pub replies : Replies 8 (unless_unknown sizing (unless_unwalked mode (of_built (build.answer_of (mode_by mode) (build_end sizing mode ls offsets items globals scratch) ls)))) out r out'
  pub called :
      let e = build_end sizing mode ls offsets items globals scratch in
      8 ≤ length out → sizing ≤ last_sizing → mode ≤ last_mode → build.BuildIs (mode_by mode) ls offsets items globals scratch (build.answer_of (mode_by mode) e ls) offsets' items' globals' scratch' e
  pub short : length out < 8 → (offsets' ≡ offsets) × (items' ≡ items) × (globals' ≡ globals) × (scratch' ≡ scratch)
  pub unknown : last_sizing < sizing → (offsets' ≡ offsets) × (items' ≡ items) × (globals' ≡ globals) × (scratch' ≡ scratch)
  pub unwalked : last_mode < mode → (offsets' ≡ offsets) × (items' ≡ items) × (globals' ≡ globals) × (scratch' ≡ scratch)

-- the owners of many points, on the grid g that words say
pub record OwnersReplies (words : List ℕ) (g : Grid) (xs ys : List Float) (answers out : List ℕ) (r : ℕ) (answers' out' : List ℕ) : Type 0 where
  pub replies : Replies 1 (unless_few words (of_check (owners_check g xs ys (length answers)))) out r out'
  pub called : 1 ≤ length out → grid_words ≤ length words → OwnersAre g xs ys answers (owners_check g xs ys (length answers)) answers'
  pub short : length out < 1 → answers' ≡ answers
  pub few : length words < grid_words → answers' ≡ answers

-- a batch from the bookmark b, on the grid g that words say
pub record BatchReplies (words : List ℕ) (ls : Lines) (g : Grid) (t : Tables) (b : ℕ) (first second out : List ℕ) (r : ℕ) (first' second' out' : List ℕ) : Type 0 where
  pub replies : Replies 3 (unless_few words (of_batch (batch_answer ls g t b first second))) out r out'
  pub called : 3 ≤ length out → grid_words ≤ length words → BatchIs ls g t b first second first' second' (batch_answer ls g t b first second)
  pub short : length out < 3 → (first' ≡ first) × (second' ≡ second)
  pub few : length words < grid_words → (first' ≡ first) × (second' ≡ second)
