-- The lines of a build, on every grid that the build can try. Definitions only.
use Rattle.std.specs.Prelude.{◌≡◌, true, ℕ, zero, suc, ◌*◌, ◌<◌}
use Rattle.grid.specs.declared.Grid.{Grid}
use Rattle.grid.specs.Domain.{Lines, count, segment_at}
use Rattle.sizing.specs.declared.Size.{Size}
use Rattle.sizing.specs.Bounds.{extent_of}
use Rattle.sizing.specs.Size.{half_of}
use Rattle.sizing.specs.Counts.{grid_of}
use Rattle.cover.specs.Covering.{passes}

-- every line passes the guard
abbrev pub LinesPass : Grid → Lines → Type 0
LinesPass g ls = (i : ℕ) → i < count ls → passes g (segment_at ls i) ≡ true

-- every line passes it on the grid of the size s, and, with so many halvings left, on every grid that comes of halving it, which is done only where four
-- times the cells are below 1,000,000
abbrev pub AllPass : ℕ → Lines → Size → Type 0
AllPass zero ls s = LinesPass (grid_of (extent_of ls) s) ls
AllPass (suc left) ls s =
    LinesPass (grid_of (extent_of ls) s) ls
    × ((grid_of (extent_of ls) s).rows * (grid_of (extent_of ls) s).cols * 4 < 1000000 → AllPass left ls (half_of s))
