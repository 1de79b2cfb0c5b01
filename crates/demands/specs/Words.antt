-- The words of demand 3, over any walk: `W k` is the list of the distinct cells that line k visits. Global lines, and cells that two lines
-- share. Definitions only.
use Rattle.std.specs.Prelude.{Bool, cond, ◌&&◌, ◌||◌, List, ℕ, ◌*◌}
use Rattle.slices.specs.Lists.{elem}
use Rattle.grid.specs.declared.Grid.{Grid}
use Rattle.tables.specs.Lists.{long}
use Rattle.visit.specs.Words.{count_below}

-- line k is global: its walk visits more than 2,048 distinct cells
abbrev pub is_global : (ℕ → List ℕ) → ℕ → Bool
is_global W k = long (W k)

-- the walk of line k visits the cell c
abbrev pub visits : (ℕ → List ℕ) → ℕ → ℕ → Bool
visits W k c = elem c (W k)

-- the number of cells of the grid that both walks visit
unfoldable pub shared_cells : Grid → (ℕ → List ℕ) → ℕ → ℕ → ℕ
shared_cells g W a b = count_below (g.rows * g.cols) (λ c. visits W a c && visits W b c)

-- how often two different lines are to be tested: "once per shared cell if neither is global, else once"
unfoldable pub due : Grid → (ℕ → List ℕ) → ℕ → ℕ → ℕ
due g W a b = cond (is_global W a || is_global W b) 1 (shared_cells g W a b)
