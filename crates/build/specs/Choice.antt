-- Document 01, "The build": which grid a build settles on. The first has the first cell size; while some cell has more than 500 lines, fewer than
-- two halvings were made and cells x 4 is below 1,000,000, the cell size is halved and the build begins again. Definitions only.
use Rattle.std.specs.Prelude.{Bool, cond, ◌&&◌, ℕ, zero, suc, ◌*◌, leb, ltb, length}
use Rattle.refusals.specs.Refusals.{Answer, gives, ◌then◌}
use Rattle.grid.specs.declared.Grid.{Grid}
use Rattle.grid.specs.Domain.{Lines, count}
use Rattle.walk.specs.declared.Mode.{Mode}
use Rattle.sizing.specs.declared.Extent.{Extent}
use Rattle.sizing.specs.declared.Size.{Size}
use Rattle.sizing.specs.Bounds.{extent_of}
use Rattle.sizing.specs.Size.{first_size, half_of}
use Rattle.sizing.specs.Counts.{grid_of, empty_grid}
use Rattle.fill.specs.OnGrid.{grid_cells, list_on}
use Rattle.fill.specs.Checks.{tried_check}
use Rattle.fill.specs.Fill.{more_than}
use Rattle.build.specs.declared.Plan.{Plan}

-- the grid is to be refined: some cell has more than 500, and cells x 4 is below 1,000,000
unfoldable pub crowded : Mode → Grid → Lines → Bool
crowded mode g ls = more_than 500 (λ c. length (list_on mode g ls c)) (grid_cells g) && ltb (grid_cells g * 4) 1000000

-- The choice from a size on, with so many halvings left: at each grid tried what is refused there, else the grid, or what half the size leads to.
unfoldable pub chosen : Mode → ℕ → Extent → Size → Lines → ℕ → Answer Grid
chosen mode zero e size ls room = tried_check mode (grid_of e size) ls room then gives (grid_of e size)
chosen mode (suc halvings) e size ls room =
    tried_check mode (grid_of e size) ls room
    then cond (crowded mode (grid_of e size) ls) (chosen mode halvings e (half_of size) ls room) (gives (grid_of e size))

-- the choice for some lines: from the first size of the plan's sizing on, with two halvings
unfoldable pub chosen_first : Plan → Lines → ℕ → Answer Grid
chosen_first plan ls room = chosen plan.mode 2 (extent_of ls) (first_size plan.sizing (extent_of ls) (count ls)) ls room

-- no lines settle on the empty grid, where 4 still applies
unfoldable pub chosen_none : Mode → Lines → ℕ → Answer Grid
chosen_none mode ls room = tried_check mode empty_grid ls room then gives empty_grid

unfoldable pub choice : Plan → Lines → ℕ → Answer Grid
choice plan ls room = cond (leb 1 (count ls)) (chosen_first plan ls room) (chosen_none plan.mode ls room)
