-- What the two entries answer, and what they leave in each lent slice: counting on a given grid, and filling its tables. Definitions only.
use Rattle.std.specs.Prelude.{◌≡◌, Bool, false, cond, ◌||◌, List, ℕ, zero, suc, ltb, length, replicate, Result, Ok, Err}
use Rattle.refusals.specs.declared.Refusal.{Refusal}
use Rattle.refusals.specs.Refusals.{Answer, gives, ◌then◌, answer_by, left_in, zero_beyond}
use Rattle.grid.specs.declared.Grid.{Grid}
use Rattle.grid.specs.Domain.{Lines}
use Rattle.walk.specs.declared.Mode.{Mode}
use Rattle.tables.specs.Lists.{items_of, offsets_of}
use Rattle.fill.specs.declared.Filled.{Filled}
use Rattle.fill.specs.declared.Filled.TheVariants as filled
use Rattle.fill.specs.OnGrid.{grid_cells, list_on, globals_on, total, counts_on}
use Rattle.fill.specs.Checks.{counting_check, space_check}

-- ---- the count

-- what is refused; else how many lines are global
unfoldable pub count_of : Mode → Grid → Lines → ℕ → ℕ → Answer ℕ
count_of mode g ls counts scratch = counting_check mode g ls counts scratch then gives (length (globals_on mode g ls))

-- the answer; the number of lines of each cell, and a scratch of zeros
pub record CountIs (mode : Mode) (g : Grid) (ls : Lines) (counts scratch : List ℕ) (r : Result ℕ Refusal) (counts' scratch' : List ℕ) (a : Answer ℕ) : Type 0 where
  pub answer : r ≡ answer_by Err Ok a
  pub counts_are : counts' ≡ left_in 0 counts a (λ _. counts_on mode g ls (length counts))
  pub scratch_is : scratch' ≡ left_in 0 scratch a (λ _. replicate (length scratch) 0)

-- ---- the tables

-- some cell, of the first n, has more than `most`; cell c has g c
unfoldable pub more_than : ℕ → (ℕ → ℕ) → ℕ → Bool
more_than most g zero = false
more_than most g (suc c) = more_than most g c || ltb most (g c)

-- what filling the tables of a grid comes to where nothing is refused
pub data Filling : Type 0 where
  crowded : Filling
  made : Filling

-- what a count refuses; then a cell that lists more than `most`; then 5 and 6
unfoldable pub filling_of : Mode → Grid → Lines → ℕ → ℕ → ℕ → ℕ → ℕ → Answer Filling
filling_of mode g ls most offsets items globals scratch =
    counting_check mode g ls offsets scratch
    then cond (more_than most (λ c. length (list_on mode g ls c)) (grid_cells g)) (gives crowded) (space_check mode g ls items globals then gives made)

-- the answer: that some cell is crowded, or the numbers of items and of globals
unfoldable pub filled_of : Mode → Grid → Lines → Filling → Result Filled Refusal
filled_of mode g ls crowded = Ok filled.Crowded
filled_of mode g ls made = Ok (filled.Tables (total mode g ls) (length (globals_on mode g ls)))

-- what is written in a slice of n entries: zeros where some cell is crowded, else its part of the tables
unfoldable pub written_in : ℕ → List ℕ → Filling → List ℕ
written_in n part crowded = replicate n 0
written_in n part made = part

-- the tables of the lines on the grid, with zeros beyond, and a scratch of zeros
pub record FillIs (mode : Mode) (g : Grid) (ls : Lines) (offsets items globals scratch : List ℕ) (r : Result Filled Refusal) (offsets' items' globals' scratch' : List ℕ) (f : Answer Filling) : Type 0 where
  pub answer : r ≡ answer_by Err (filled_of mode g ls) f
  pub offsets_are : offsets' ≡ left_in 0 offsets f (written_in (length offsets) (offsets_of (list_on mode g ls) (grid_cells g) (length offsets)))
  pub items_are : items' ≡ left_in 0 items f (written_in (length items) (items_of (list_on mode g ls) (grid_cells g) (length items)))
  pub globals_are : globals' ≡ left_in 0 globals f (written_in (length globals) (zero_beyond 0 (length globals) (globals_on mode g ls)))
  pub scratch_is : scratch' ≡ left_in 0 scratch f (written_in (length scratch) (replicate (length scratch) 0))
