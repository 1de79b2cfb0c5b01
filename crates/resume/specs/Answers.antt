-- What `start` and `next` answer. Definitions only.
use Rattle.std.specs.Prelude.{Ok, Err, Result, ℕ, ◌≡◌, List, length, drop}
use Rattle.refusals.specs.declared.Refusal.{Refusal}
use Rattle.refusals.specs.Refusals.{Answer, gives, ◌then◌, answer_by}
use Rattle.grid.specs.declared.Grid.{Grid}
use Rattle.grid.specs.Domain.{Lines}
use Rattle.tables.specs.Tables.{Tables}
use Rattle.seek.specs.Tests.{Pair}
use Rattle.visit.specs.Batches.{made, handed, firsts, seconds}
use Rattle.seek.specs.Bookmarks.{tests_from}
use Rattle.visit.specs.Entries.{pairs_left}
use Rattle.through.specs.Runs.{outputs_lines_check}
use Rattle.resume.specs.declared.Cursor.{Cursor}
use Rattle.resume.specs.declared.Went.{Went}
use Rattle.resume.specs.Cursors.{left_from, cursor_of}

-- START: the refusals of a batch from the bookmark, but for its outputs; else the cursor of the tests that are left there
unfoldable pub start_answer : Lines → Grid → Tables → ℕ → (Result Cursor Refusal)
start_answer ls g t b = answer_by Err (λ rest. Ok (cursor_of t rest)) (tests_from ls g t b)

-- what `next` goes through: the tests that are left, where lines and outputs are not refused
unfoldable pub next_tests : Lines → Tables → Cursor → List ℕ → List ℕ → Answer (List Pair)
next_tests ls t c first second = outputs_lines_check ls first second then gives (left_from t c)

-- of the tests that are left, with room for as many pairs as the outputs are long: how many are made, how many overlap, and the cursor of those
-- that are left then
abbrev pub went_of : Lines → Tables → ℕ → List Pair → Went
went_of ls t room rest =
    record {
      tests = length (made ls rest room);
      overlaps = length (handed ls rest room);
      cursor = cursor_of t (drop (length (made ls rest room)) rest);
    }

unfoldable pub next_answer : Lines → Tables → Cursor → List ℕ → List ℕ → (Result Went Refusal)
next_answer ls t c first second =
    answer_by Err (λ ps. Ok (went_of ls t (length first) ps)) (next_tests ls t c first second)

-- NEXT: the answer r, and the two outputs before and after
pub record NextIs (ls : Lines) (t : Tables) (c : Cursor) (first second first' second' : List ℕ) (r : (Result Went Refusal)) : Type 0 where
  pub answers : r ≡ next_answer ls t c first second
  pub first_is : first' ≡ pairs_left ls (length first) firsts (next_tests ls t c first second) first
  pub second_is : second' ≡ pairs_left ls (length first) seconds (next_tests ls t c first second) second
