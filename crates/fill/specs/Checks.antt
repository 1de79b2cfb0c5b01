-- Document 01, "Refusal numbers": what is refused on a given grid, in its order. Definitions only.
use Rattle.refusals.specs.Refusals.{Check, unless, and_then, each_from}
use Rattle.std.specs.Prelude.{ℕ, ◌+◌, leb, length}
use Rattle.grid.specs.declared.Grid.{Grid}
use Rattle.grid.specs.Domain.{Lines, count, scratch_check, lines_check, grid_check}
use Rattle.walk.specs.declared.Mode.{Mode}
use Rattle.fill.specs.OnGrid.{grid_cells, walk_on, completes, globals_on, total}

-- 3, 2, 1, 8
unfoldable pub on_grid_check : Grid → Lines → ℕ → Check
on_grid_check g ls scratch = and_then (scratch_check scratch) (and_then (lines_check ls) (grid_check g))

-- 4: a grid tried has more cells + 1 than the lent offsets
unfoldable pub room_check : Grid → ℕ → Check
room_check g room = unless (leb (grid_cells g + 1) room) 4 (grid_cells g + 1)

-- 7: the walk of a line made 5,000 turns and would make another; the first such line
unfoldable pub turns_check : Mode → Grid → Lines → Check
turns_check mode g ls = each_from (λ i. completes (walk_on mode g ls i)) 7 (count ls) 0

-- at each grid tried 4, then 7
unfoldable pub tried_check : Mode → Grid → Lines → ℕ → Check
tried_check mode g ls room = and_then (room_check g room) (turns_check mode g ls)

-- what a count checks: 3, 2, 1, 8, then 4 and 7
unfoldable pub counting_check : Mode → Grid → Lines → ℕ → ℕ → Check
counting_check mode g ls room scratch = and_then (on_grid_check g ls scratch) (tried_check mode g ls room)

-- 5: items lent are fewer than the total; then 6: globals lent are fewer than found
unfoldable pub space_check : Mode → Grid → Lines → ℕ → ℕ → Check
space_check mode g ls items globals =
    and_then (unless (leb (total mode g ls) items) 5 (total mode g ls)) (unless (leb (length (globals_on mode g ls)) globals) 6 (length (globals_on mode g ls)))
