-- The promise of the function that goes on. Where `out` has the words of a result and words say a grid, `next` is called, and its own promise holds
-- of both outputs; else they stay as they were. Definitions only.
use Rattle.std.specs.Prelude.{ℕ, ◌≤◌, ◌<◌, ◌≡◌, List, length}
use Rattle.grid.specs.Domain.{Lines}
use Rattle.grid.specs.Words.{grid_words}
use Rattle.tables.specs.Tables.{Tables}
use Rattle.resume.specs.declared.Cursor.{Cursor}
use Rattle.resume.specs.Answers.{next_answer, NextIs}
use Rattle.replies.specs.Replies.{Replies}
use Rattle.capi.specs.Few.{unless_few}
use Rattle.capi_resume.specs.Answers.{of_next}

pub record NextReplies (words : List ℕ) (ls : Lines) (t : Tables) (c : Cursor) (first second out : List ℕ) (r : ℕ) (first' second' out' : List ℕ) : Type 0 where
  pub replies : Replies 5 (unless_few words (of_next (next_answer ls t c first second))) out r out'
  pub called : 5 ≤ length out → grid_words ≤ length words → NextIs ls t c first second first' second' (next_answer ls t c first second)
  pub short : length out < 5 → (first' ≡ first) × (second' ≡ second)
  pub few : length words < grid_words → (first' ≡ first) × (second' ≡ second)
