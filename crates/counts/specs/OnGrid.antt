-- Document 02, change 8: what counting on an agreed grid answers and leaves, and what tables on it are. Definitions only.
use Rattle.std.specs.Prelude.{◌≡◌, List, ℕ, length, replicate, Result, Ok, Err}
use Rattle.refusals.specs.declared.Refusal.{Refusal}
use Rattle.refusals.specs.Refusals.{Check, refusal, and_then, Answer, gives, ◌then◌, answer_by, left_in, zero_beyond}
use Rattle.grid.specs.declared.Grid.{Grid}
use Rattle.grid.specs.Domain.{Lines}
use Rattle.walk.specs.declared.Mode.{Mode}
use Rattle.tables.specs.Lists.{items_of, offsets_of}
use Rattle.fill.specs.declared.Filled.{Filled}
use Rattle.fill.specs.declared.Filled.TheVariants as filled
use Rattle.fill.specs.OnGrid.{grid_cells, list_on, globals_on, total, counts_on}
use Rattle.fill.specs.Checks.{counting_check, space_check}
use Rattle.counts.specs.declared.Counted.{Counted}
use Rattle.counts.specs.declared.Tabled.{Tabled}

-- ---- the count: 3, 2, 1, 8, then 4 and 7 as in a build (`count_of` of `fill`); a is the number of global lines, or the refusal

-- the answer: the sum of all counts, and the number of global lines
abbrev pub counted_of : Mode → Grid → Lines → Answer ℕ → Result Counted Refusal
counted_of mode g ls a = answer_by Err (λ globals. Ok (record { listed = total mode g ls; globals = globals })) a

-- the promise: the answer; the number of lines of each cell, and a scratch of zeros
pub record CountingIs (mode : Mode) (g : Grid) (ls : Lines) (counts scratch : List ℕ) (r : Result Counted Refusal) (counts' scratch' : List ℕ) (a : Answer ℕ) : Type 0 where
  pub answer : r ≡ counted_of mode g ls a
  pub counts_are : counts' ≡ left_in 0 counts a (λ _. counts_on mode g ls (length counts))
  pub scratch_is : scratch' ≡ left_in 0 scratch a (λ _. replicate (length scratch) 0)

-- ---- the tables

-- what a count checks; then 5 and 6, as a build's on one grid
unfoldable pub tables_room_check : Mode → Grid → Lines → ℕ → ℕ → ℕ → ℕ → Check
tables_room_check mode g ls offsets items globals scratch = and_then (counting_check mode g ls offsets scratch) (space_check mode g ls items globals)

-- the grid of the tables, or the refusal
unfoldable pub tables_of : Mode → Grid → Lines → ℕ → ℕ → ℕ → ℕ → Answer Grid
tables_of mode g ls offsets items globals scratch = tables_room_check mode g ls offsets items globals scratch then gives g

-- what filling a grid comes to where at most 65,536 lines may be in a cell; it is never crowded
abbrev pub tabled_by : Result Filled Refusal → Result Tabled Refusal
tabled_by (Ok (filled.Tables items globals)) = Ok (record { items = items; globals = globals })
tabled_by (Ok filled.Crowded) = Err (refusal 8 0)
tabled_by (Err r) = Err r

-- the numbers of items and of global lines
abbrev pub tabled_on : Mode → Lines → Grid → Tabled
tabled_on mode ls g = record { items = total mode g ls; globals = length (globals_on mode g ls) }

-- the answer: these
abbrev pub tabled_of : Mode → Lines → Answer Grid → Result Tabled Refusal
tabled_of mode ls a = answer_by Err (λ g. Ok (tabled_on mode ls g)) a

-- the promise: the answer; the tables, with zeros beyond, and a scratch of zeros
pub record TablesAre (mode : Mode) (g : Grid) (ls : Lines) (offsets items globals scratch : List ℕ) (r : Result Tabled Refusal) (offsets' items' globals' scratch' : List ℕ) (a : Answer Grid) : Type 0 where
  pub answer : r ≡ tabled_of mode ls a
  pub offsets_are : offsets' ≡ left_in 0 offsets a (λ g. offsets_of (list_on mode g ls) (grid_cells g) (length offsets))
  pub items_are : items' ≡ left_in 0 items a (λ g. items_of (list_on mode g ls) (grid_cells g) (length items))
  pub globals_are : globals' ≡ left_in 0 globals a (λ g. zero_beyond 0 (length globals) (globals_on mode g ls))
  pub scratch_is : scratch' ≡ left_in 0 scratch a (λ _. replicate (length scratch) 0)
