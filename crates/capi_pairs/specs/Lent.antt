-- The promises of exported functions that are lent slices to write beside `out`. Where `out` has the words of a result and the words say a grid,
-- the entry is called, and its own promise holds of those slices; else they stay as they were. Definitions only.
use Rattle.std.specs.Prelude.{Ok, Err, Result, ℕ, ◌≤◌, ◌<◌, ◌≡◌, List, length}
use Rattle.refusals.specs.declared.Refusal.{Refusal}
use Rattle.refusals.specs.Refusals.{Answer, answer_by}
use Rattle.grid.specs.declared.Grid.{Grid}
use Rattle.grid.specs.Words.{grid_words}
use Rattle.tables.specs.Tables.{Tables}
use Rattle.by_line.specs.ByLine.{by_line, ByLineIs}
use Rattle.seek.specs.Tests.{Pair}
use Rattle.first_tests.specs.Firsts.{PairsAre}
use Rattle.replies.specs.Replies.{Replies}
use Rattle.capi.specs.Few.{unless_few}
use Rattle.capi_pairs.specs.Answers.{of_by_line, of_once}

-- what the entry answers
abbrev pub by_line_answer : Grid → Tables → List ℕ → List ℕ → Result ℕ Refusal
by_line_answer g t starts listing = answer_by Err Ok (by_line g t starts listing)

-- lists by line, on the grid g that words say
pub record ByLineReplies (words : List ℕ) (g : Grid) (t : Tables) (starts listing out : List ℕ) (r : ℕ) (starts' listing' out' : List ℕ) : Type 0 where
  pub replies : Replies 1 (unless_few words (of_by_line (by_line_answer g t starts listing))) out r out'
  pub called : 1 ≤ length out → grid_words ≤ length words → ByLineIs g t starts listing (by_line_answer g t starts listing) starts' listing'
  pub short : length out < 1 → (starts' ≡ starts) × (listing' ≡ listing)
  pub few : length words < grid_words → (starts' ≡ starts) × (listing' ≡ listing)

-- what the entry answers to what a visit comes to that hands out each pair once
abbrev pub once_answer : Answer (List Pair) → Result ℕ Refusal
once_answer end = answer_by Err (λ ps. Ok (length ps)) end

-- the five slices after a call are as they were before it
pub record SameFive (first second starts listing counts first' second' starts' listing' counts' : List ℕ) : Type 0 where
  pub first_same : first' ≡ first
  pub second_same : second' ≡ second
  pub starts_same : starts' ≡ starts
  pub listing_same : listing' ≡ listing
  pub counts_same : counts' ≡ counts

-- each pair once, on a grid that words say
pub record OnceReplies (words : List ℕ) (end : Answer (List Pair)) (first second starts listing counts out : List ℕ) (r : ℕ) (first' second' starts' listing' counts' out' : List ℕ) : Type 0 where
  pub replies : Replies 1 (unless_few words (of_once (once_answer end))) out r out'
  pub called : 1 ≤ length out → grid_words ≤ length words → PairsAre end first second starts listing counts (once_answer end) first' second' starts' listing' counts'
  pub short : length out < 1 → SameFive first second starts listing counts first' second' starts' listing' counts'
  pub few : length words < grid_words → SameFive first second starts listing counts first' second' starts' listing' counts'
