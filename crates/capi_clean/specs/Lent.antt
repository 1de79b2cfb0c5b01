-- Document 01's number and values for the answer of cleaning, and the promise of the exported function: where `out` is short the entry is not called,
-- and the slices stay. Definitions only.
use Rattle.std.specs.Prelude.{Ok, Err, Result, ℕ, ◌≤◌, ◌<◌, ◌≡◌, List, [], ◌∷◌, length}
use Rattle.refusals.specs.declared.Refusal.{Refusal}
use Rattle.clean.specs.declared.Cleaned.{Cleaned}
use Rattle.clean.specs.Calls.{Outputs, cleaning, cleaned_of, CleanedAs}
use Rattle.replies.specs.Replies.{Reply, success, refusing, Replies}

-- the number of points and that of pieces; they are in their slices
unfoldable pub of_cleaned : Result Cleaned Refusal → Reply
of_cleaned (Ok k) = success (k.points ∷ k.members ∷ [])
of_cleaned (Err r) = refusing r

abbrev pub clean_answer : List ℕ → List ℕ → List ℕ → Outputs → Result Cleaned Refusal
clean_answer x y lengths o = cleaned_of (cleaning x y lengths o)

pub record CleanReplies (x y lengths : List ℕ) (o : Outputs) (out : List ℕ) (r : ℕ) (o' : Outputs) (out' : List ℕ) : Type 0 where
  pub replies : Replies 2 (of_cleaned (clean_answer x y lengths o)) out r out'
  pub called : 2 ≤ length out → CleanedAs x y lengths o (clean_answer x y lengths o) o'
  pub short : length out < 2 → o' ≡ o
