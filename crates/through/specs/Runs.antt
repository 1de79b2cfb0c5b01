-- What a run through the cells does. Definitions only.
use Rattle.std.specs.Prelude.{Ok, Err, ℕ, ◌-◌, min, ◌≡◌, Bool, false, cond, List, [], length, drop, ltb}
use Rattle.refusals.specs.Refusals.{Check}
use Rattle.refusals.specs.Refusals.{and_then, zero_beyond}
use Rattle.grid.specs.Domain.{Lines, count, lengths_check, count_check}
use Rattle.seek.specs.Tests.{Pair}
use Rattle.visit.specs.Batches.{made, handed, firsts, seconds}
use Rattle.visit.specs.Entries.{outputs_check}
use Rattle.through.specs.declared.CellsMade.{CellsMade}
use Rattle.listed.specs.Lists.{list_by, cells_from}
use Rattle.listed.specs.Places.{LeftAt}

-- 3 of the outputs, 3 and 2 of the lines
unfoldable pub outputs_lines_check : Lines → List ℕ → List ℕ → Check
outputs_lines_check ls first second = and_then (outputs_check first second) (and_then (lengths_check ls) (count_check (count ls)))

-- ---- whether a run is made, and its tests

-- no more cells are looked at than a fit grid can have
abbrev pub within_fit : ℕ → ℕ
within_fit m = min m 1002001

-- where a check is fine: what a test says
unfoldable pub also_if : Check → Bool → Bool
also_if (Ok _) b = b
also_if (Err r) b = false

-- a run is made where what is lent passes the check, and the cell is among those that are looked at
unfoldable pub runs : Lines → ℕ → ℕ → List ℕ → List ℕ → Bool
runs ls m cell first second = also_if (outputs_lines_check ls first second) (ltb cell (within_fit m))

-- the tests that are left of the first m cells; where no run is made, none
unfoldable pub run_tests : Lines → ℕ → ℕ → List ℕ → List ℕ → ℕ → ℕ → ℕ → List ℕ → List ℕ → List Pair
run_tests ls cols m offsets items cell i j first second =
    cond (runs ls m cell first second) (cells_from cols (list_by (count ls) offsets items) (within_fit m - cell) cell i j) []

-- ---- what it does

-- THE RUN: the answer r, and the two outputs before and after. Of the tests `rest` as many are made as a batch makes; the pairs that overlap stand in
-- the outputs, with zero beyond, and where no run is made the outputs stay as they were
pub record RanIs (ls : Lines) (cols m : ℕ) (offsets items : List ℕ) (rest : List Pair) (run : Bool) (first second first' second' : List ℕ) (r : CellsMade) : Type 0 where
  pub tests : r.tests ≡ length (made ls rest (length first))
  pub overlaps : r.overlaps ≡ length (handed ls rest (length first))
  pub at : LeftAt cols (count ls) (within_fit m) offsets items (drop r.tests rest) r.at
  pub first_is : first' ≡ cond run (zero_beyond 0 (length first) (firsts (handed ls rest (length first)))) first
  pub second_is : second' ≡ cond run (zero_beyond 0 (length second) (seconds (handed ls rest (length first)))) second

abbrev pub CellsMadeIs : Lines → ℕ → ℕ → List ℕ → List ℕ → ℕ → ℕ → ℕ → List ℕ → List ℕ → List ℕ → List ℕ → CellsMade → Type 0
CellsMadeIs ls cols m offsets items cell i j first second first' second' r =
    RanIs ls cols m offsets items (run_tests ls cols m offsets items cell i j first second) (runs ls m cell first second) first second first' second' r
