-- What the entries of a visit answer: one test by its bookmark, and a batch from a bookmark, without and with the places of its pairs.
-- Definitions only.
use Rattle.std.specs.Prelude.{Ok, Err, Some, None, Result, Option, ℕ, ◌+◌, ◌≡◌, List, [], ◌∷◌, length, eqb}
use Rattle.refusals.specs.declared.Refusal.{Refusal}
use Rattle.refusals.specs.Refusals.{Check}
use Rattle.refusals.specs.Refusals.{unless, Answer, ◌then◌, answer_by, left_in, zero_beyond}
use Rattle.grid.specs.declared.Grid.{Grid}
use Rattle.grid.specs.Domain.{Lines}
use Rattle.tables.specs.Tables.{Tables}
use Rattle.seek.specs.Tests.{Pair}
use Rattle.visit.specs.Places.{number_of}
use Rattle.seek.specs.Bookmarks.{tests_from}
use Rattle.visit.specs.declared.Test.{Test}
use Rattle.visit.specs.declared.Tally.{Tally}
use Rattle.visit.specs.Overlap.{overlap}
use Rattle.visit.specs.Batches.{made, handed, firsts, seconds, place_numbers}

-- ---- the refusals

-- 3: the two outputs differ in length
unfoldable pub outputs_check : List ℕ → List ℕ → Check
outputs_check first second = unless (eqb (length first) (length second)) 3 0

-- ---- one test by bookmark

-- a test with its overlap
abbrev pub test_of : Lines → Pair → Test
test_of ls p = record { place = p.place; first = p.first; second = p.second; overlap = overlap ls p.first p.second }

-- the first of the tests that are left, or the end mark
unfoldable pub next_test : Lines → List Pair → (Result (Option Test) Refusal)
next_test ls [] = Ok None
next_test ls (p ∷ ps) = Ok (Some (test_of ls p))

unfoldable pub test_at : Lines → Grid → Tables → ℕ → (Result (Option Test) Refusal)
test_at ls g t b = answer_by Err (next_test ls) (tests_from ls g t b)

-- ---- a batch

unfoldable pub batch_tests : Lines → Grid → Tables → ℕ → List ℕ → List ℕ → Answer (List Pair)
batch_tests ls g t b first second = outputs_check first second then tests_from ls g t b

-- of the tests that are left at a bookmark, with room for as many pairs as the outputs are long: how many are made, how many overlap, and
-- the bookmark after them
abbrev pub tally_of : Lines → List Pair → ℕ → ℕ → Tally
tally_of ls rest b room =
    record { tests = length (made ls rest room); overlaps = length (handed ls rest room); bookmark = b + length (made ls rest room) }

unfoldable pub batch_of : Lines → ℕ → ℕ → Answer (List Pair) → (Result Tally Refusal)
batch_of ls b room rest = answer_by Err (λ ps. Ok (tally_of ls ps b room)) rest

unfoldable pub batch_answer : Lines → Grid → Tables → ℕ → List ℕ → List ℕ → (Result Tally Refusal)
batch_answer ls g t b first second = batch_of ls b (length first) (batch_tests ls g t b first second)

-- what an output holds afterwards: one side of the pairs that overlap
unfoldable pub pairs_left : Lines → ℕ → (List Pair → List ℕ) → Answer (List Pair) → List ℕ → List ℕ
pairs_left ls room side rest was = left_in 0 was rest (λ ps. zero_beyond 0 (length was) (side (handed ls ps room)))

-- the answer r, and the two outputs before and after
pub record BatchIs (ls : Lines) (g : Grid) (t : Tables) (b : ℕ) (first second first' second' : List ℕ) (r : (Result Tally Refusal)) : Type 0 where
  pub answers : r ≡ batch_answer ls g t b first second
  pub first_is : first' ≡ pairs_left ls (length first) firsts (batch_tests ls g t b first second) first
  pub second_is : second' ≡ pairs_left ls (length first) seconds (batch_tests ls g t b first second) second

-- ---- a batch that says where each pair was tested

-- 3: the places' slice and the outputs differ in length
unfoldable pub places_check : List ℕ → List ℕ → Check
places_check first places = unless (eqb (length first) (length places)) 3 0

unfoldable pub placed_tests : Lines → Grid → Tables → ℕ → List ℕ → List ℕ → List ℕ → Answer (List Pair)
placed_tests ls g t b first second places = places_check first places then batch_tests ls g t b first second

-- the answer r, the two outputs and the places before and after: all as a batch leaves it, and beside each pair the number of its place
pub record PlacedBatchIs (ls : Lines) (g : Grid) (t : Tables) (b : ℕ) (first second places first' second' places' : List ℕ) (r : (Result Tally Refusal)) : Type 0 where
  pub answers : r ≡ batch_of ls b (length first) (placed_tests ls g t b first second places)
  pub first_is : first' ≡ pairs_left ls (length first) firsts (placed_tests ls g t b first second places) first
  pub second_is : second' ≡ pairs_left ls (length first) seconds (placed_tests ls g t b first second places) second
  pub places_are : places' ≡ pairs_left ls (length first) (place_numbers (number_of t)) (placed_tests ls g t b first second places) places
