-- The promise of the exported query. Where `out` has a word and words say a grid, the entry is called, and its own promise holds of the slice of
-- lines; else that stays as it was. Definitions only.
use Rattle.std.specs.Prelude.{Ok, Err, Result, ℕ, ◌≤◌, ◌<◌, ◌≡◌, List, [], ◌∷◌, Float, length}
use Rattle.refusals.specs.declared.Refusal.{Refusal}
use Rattle.grid.specs.declared.Grid.{Grid}
use Rattle.grid.specs.declared.Box.{Box}
use Rattle.grid.specs.Domain.{Lines}
use Rattle.grid.specs.Words.{grid_words}
use Rattle.tables.specs.Tables.{Tables}
use Rattle.window.specs.Window.{window_end, window_answer, WindowIs}
use Rattle.replies.specs.Replies.{Reply, Replies, success, refusing}
use Rattle.capi.specs.Few.{unless_few}

-- a window by its lower and its upper corner
abbrev pub corners : Float → Float → Float → Float → Box
corners lowX lowY highX highY = record { min_x = lowX; min_y = lowY; max_x = highX; max_y = highY }

-- how many lines there are; they are in their slice
unfoldable pub of_listing : Result ℕ Refusal → Reply
of_listing (Ok n) = success (n ∷ [])
of_listing (Err r) = refusing r

pub record WindowReplies (words : List ℕ) (ls : Lines) (g : Grid) (t : Tables) (w : Box) (found out : List ℕ) (r : ℕ) (found' out' : List ℕ) : Type 0 where
  pub replies : Replies 1 (unless_few words (of_listing (window_answer (window_end ls g t w (length found))))) out r out'
  pub called : 1 ≤ length out → grid_words ≤ length words → WindowIs ls g t w found (window_answer (window_end ls g t w (length found))) found'
  pub short : length out < 1 → found' ≡ found
  pub few : length words < grid_words → found' ≡ found
