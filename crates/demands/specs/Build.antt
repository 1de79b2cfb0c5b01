-- Demand 3 after a build that succeeded, of the mode of its plan, its lines, its final grid and the tables that it left. Definitions only.
use Rattle.std.specs.Prelude.{◌≡◌, ℕ, ◌<◌}
use Rattle.refusals.specs.Refusals.{gives}
use Rattle.grid.specs.declared.Grid.{Grid}
use Rattle.grid.specs.Domain.{Lines, count}
use Rattle.walk.specs.declared.Mode.{Mode}
use Rattle.tables.specs.Tables.{Tables}
use Rattle.fill.specs.OnGrid.{walk_on, cells_on}
use Rattle.demands.specs.Demand.{Demand3}

pub record AfterBuild (mode : Mode) (ls : Lines) (g : Grid) (t : Tables) : Type 0 where
  -- every walk ends within its turns, so that its cells are what it visits
  pub walks : (k : ℕ) → k < count ls → walk_on mode g ls k ≡ gives (cells_on mode g ls k)
  -- demand 3, of these walks
  pub demand : Demand3 ls g (cells_on mode g ls) t
