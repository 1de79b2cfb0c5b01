-- Document 01, "The build": what the entry answers, and what it leaves in each lent slice. Definitions only.
use Rattle.std.specs.Prelude.{◌≡◌, List, ℕ, length, replicate, Result, Ok, Err}
use Rattle.refusals.specs.declared.Refusal.{Refusal}
use Rattle.build.specs.declared.Standing.{Standing}
use Rattle.refusals.specs.Refusals.{Answer, gives, and_then, ◌then◌, ◌into◌, answer_by, left_in, zero_beyond}
use Rattle.grid.specs.declared.Grid.{Grid}
use Rattle.grid.specs.Domain.{Lines, scratch_check, lines_check}
use Rattle.walk.specs.declared.Mode.{Mode}
use Rattle.tables.specs.Lists.{items_of, offsets_of}
use Rattle.fill.specs.OnGrid.{grid_cells, list_on, globals_on, total}
use Rattle.fill.specs.Checks.{space_check}
use Rattle.build.specs.declared.Plan.{Plan}
use Rattle.build.specs.Choice.{choice}

-- 5, then 6, on the grid that was settled on
unfoldable pub room_on : Mode → Lines → ℕ → ℕ → Grid → Answer Grid
room_on mode ls items globals g = space_check mode g ls items globals then gives g

-- How a build ends, by the plan, the lines and the lengths of the lent slices: 3, 2, 1; then at each grid tried 4, 7; then 5, 6; else the grid of its tables.
unfoldable pub end_of : Plan → Lines → ℕ → ℕ → ℕ → ℕ → Answer Grid
end_of plan ls offsets items globals scratch = and_then (scratch_check scratch) (lines_check ls) then (choice plan ls offsets into room_on plan.mode ls items globals)

-- tables on a grid: with the number of items and of globals
unfoldable pub built_on : Mode → Lines → Grid → Result Standing Refusal
built_on mode ls g = Ok (record { grid = g; items = total mode g ls; globals = length (globals_on mode g ls) })

-- the answer
unfoldable pub answer_of : Mode → Answer Grid → Lines → Result Standing Refusal
answer_of mode e ls = answer_by Err (built_on mode ls) e

-- the entry's promise, in the mode of its plan
pub record BuildIs (mode : Mode) (ls : Lines) (offsets items globals scratch : List ℕ) (r : Result Standing Refusal) (offsets' items' globals' scratch' : List ℕ) (e : Answer Grid) : Type 0 where
  pub answer : r ≡ answer_of mode e ls
  pub cell_offsets : offsets' ≡ left_in 0 offsets e (λ g. offsets_of (list_on mode g ls) (grid_cells g) (length offsets))
  pub cell_items : items' ≡ left_in 0 items e (λ g. items_of (list_on mode g ls) (grid_cells g) (length items))
  pub global_lines : globals' ≡ left_in 0 globals e (λ g. zero_beyond 0 (length globals) (globals_on mode g ls))
  pub scratch_is : scratch' ≡ left_in 0 scratch e (λ g. replicate (length scratch) 0)
