-- Standing tables of any walk: what document 01 says that the tables of n lines list on a grid, where `W i` is the list of the distinct cells
-- that line i visits. A build leaves such tables for its own walk; whoever reads tables needs to know no more of how they came about.
-- Definitions only.
use Rattle.std.specs.Prelude.{◌≡◌, true, List, ℕ, ◌≤◌, ◌<◌}
use Rattle.grid.specs.declared.Grid.{Grid}
use Rattle.grid.specs.Domain.{fit}
use Rattle.tables.specs.Tables.{Tables, tables, cells, list_of, globals_of}
use Rattle.tables.specs.Fit.{TablesFit}
use Rattle.tables.specs.Lists.{Walks, local_lines, global_lines}

pub record Stands (W : ℕ → List ℕ) (n : ℕ) (g : Grid) (t : Tables) : Type 0 where
  -- the tables are for this grid and n lines
  pub on_grid : t ≡ tables g n t.offsets t.items t.globals t.global_count
  -- the grid record is fit
  pub grid_fit : fit g ≡ true
  -- "At most 65,536 lines."
  pub few : n ≤ 65536
  -- the cells of each line increase, no cell twice, and are cells of the grid
  pub walks : Walks W n (cells t)
  -- the tables fit
  pub tables_fit_lem : TablesFit t
  -- demand 3: "a cell lists, increasing, exactly the lines whose walk visits it and visits at most 2,048 distinct cells;"
  pub lists : (c : ℕ) → c < cells t → list_of t c ≡ local_lines W n c
  -- "the global list holds exactly the others."
  pub globals : globals_of t ≡ global_lines W n
