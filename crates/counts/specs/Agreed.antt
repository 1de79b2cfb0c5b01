-- The grid that benches agree on. Document 02 has one agreed grid and does not say which: this is the first that a build of all lines tries, from
-- their bounds and their number alone. Definitions only.
use Rattle.std.specs.Prelude.{ℕ, zero, suc, Result, Ok, Err}
use Rattle.refusals.specs.declared.Refusal.{Refusal}
use Rattle.numbers.specs.Arithmetic.{◌-₆₄◌}
use Rattle.numbers.specs.Order.{least_of, greatest_of}
use Rattle.refusals.specs.Refusals.{Answer, gives, ◌then◌, answer_by}
use Rattle.grid.specs.declared.Grid.{Grid}
use Rattle.grid.specs.declared.Segment.{Segment}
use Rattle.grid.specs.Domain.{segment_check}
use Rattle.sizing.specs.declared.Sizing.{Sizing}
use Rattle.sizing.specs.declared.Extent.{Extent}
use Rattle.sizing.specs.Size.{first_size}
use Rattle.sizing.specs.Counts.{grid_of, empty_grid}

-- the bounds that two opposite corners say, in either order: the lower corner, and how far they reach from it
unfoldable pub bounds_of : Segment → Extent
bounds_of c =
    record {
      min_x = least_of c.start_x c.end_x;
      min_y = least_of c.start_y c.end_y;
      width = greatest_of c.end_x c.start_x -₆₄ least_of c.start_x c.end_x;
      height = greatest_of c.end_y c.start_y -₆₄ least_of c.start_y c.end_y;
    }

-- the grid of the first size for so many lines; no lines have the grid of a build of no lines
unfoldable pub agreed_on : Sizing → Extent → ℕ → Grid
agreed_on z e zero = empty_grid
agreed_on z e (suc n) = grid_of e (first_size z e (suc n))

-- 1: a coordinate of a corner breaks the rule; the value is 0
unfoldable pub agreed_of : Sizing → Segment → ℕ → Answer Grid
agreed_of z c n = segment_check c then gives (agreed_on z (bounds_of c) n)

-- the answer
abbrev pub agreed_answer : Sizing → Segment → ℕ → Result Grid Refusal
agreed_answer z c n = answer_by Err Ok (agreed_of z c n)
