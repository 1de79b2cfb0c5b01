-- Document 01, "The build": the lists of the cells and the global lines on any grid, apart from how the grid was chosen. Definitions only.
use Rattle.std.specs.Prelude.{Bool, true, false, List, [], ◌++◌, ℕ, ◌-◌, ◌*◌, length, replicate}
use Rattle.refusals.specs.Refusals.{refused, gives}
use Rattle.grid.specs.declared.Grid.{Grid}
use Rattle.grid.specs.Domain.{Lines, count, segment_at}
use Rattle.walk.specs.declared.Mode.{Mode}
use Rattle.turns.specs.Pushes.{Outcome}
use Rattle.walk.specs.Segment.{segment_of}
use Rattle.tables.specs.Lists.{local_lines, global_lines, start, tabulate}

-- the number of cells of a grid
abbrev pub grid_cells : Grid → ℕ
grid_cells g = g.rows * g.cols

-- the walk of line i, in a mode
unfoldable pub walk_on : Mode → Grid → Lines → ℕ → Outcome
walk_on mode g ls i = segment_of mode g (segment_at ls i)

-- whether a walk ends within its turns, and the distinct cells that it visits
abbrev pub completes : Outcome → Bool
completes (refused why) = false
completes (gives xs) = true

abbrev pub visited : Outcome → List ℕ
visited (refused why) = []
visited (gives xs) = xs

-- the distinct cells of line i
unfoldable pub cells_on : Mode → Grid → Lines → ℕ → List ℕ
cells_on mode g ls i = visited (walk_on mode g ls i)

-- the list of the cell c, and the global lines, of all lines
unfoldable pub list_on : Mode → Grid → Lines → ℕ → List ℕ
list_on mode g ls = local_lines (cells_on mode g ls) (count ls)

unfoldable pub globals_on : Mode → Grid → Lines → List ℕ
globals_on mode g ls = global_lines (cells_on mode g ls) (count ls)

-- the number of items
unfoldable pub total : Mode → Grid → Lines → ℕ
total mode g ls = start (list_on mode g ls) (grid_cells g)

-- how many lines each cell lists, in a slice of a length, and zero beyond
unfoldable pub counts_on : Mode → Grid → Lines → ℕ → List ℕ
counts_on mode g ls len = tabulate (λ c. length (list_on mode g ls c)) (grid_cells g) ++ replicate (len - grid_cells g) 0

-- 1 where the test holds
abbrev pub one_if : Bool → ℕ
one_if true = 1
one_if false = 0
