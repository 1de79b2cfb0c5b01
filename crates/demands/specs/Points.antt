-- Nothing is dropped: of any two different lines that share an exact point, a full visit makes a test, and hands them out. Definitions only.
use Rattle.std.specs.Prelude.{◌≡◌, List, ℕ, ◌<◌}
use Rattle.grid.specs.declared.Grid.{Grid}
use Rattle.grid.specs.Domain.{Lines, count, segment_at}
use Rattle.grid.specs.Points.{SharePoint}
use Rattle.tables.specs.Tables.{Tables}
use Rattle.seek.specs.Tests.{tests_of}
use Rattle.visit.specs.Words.{times}
use Rattle.demands.specs.Calls.{Call, FullVisit, firsts_of, seconds_of, handed_out}

-- two different lines of ls share an exact point
pub record Cross (ls : Lines) (a b : ℕ) : Type 0 where
  pub different : a ≡ b → ⊥
  pub first : a < count ls
  pub second : b < count ls
  pub point : SharePoint (segment_at ls a) (segment_at ls b)

pub record NothingDropped (ls : Lines) (g : Grid) (t : Tables) : Type 0 where
  -- they are tested
  pub tested : (a b : ℕ) → Cross ls a b → 0 < times a b (tests_of t)
  -- and over calls of `visit::visits::batch` laid end to end they are handed out
  pub handed : (cs : List Call) → FullVisit ls g t cs → (a b : ℕ) → Cross ls a b → 0 < handed_out a b (firsts_of cs) (seconds_of cs)
