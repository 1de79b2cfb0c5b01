-- Document 01, "The build": the grid of a size, and the grid of no lines. Definitions only.
use Rattle.std.specs.Prelude.{ℕ, ◌-◌, ◌^◌, min, Float}
use Rattle.numbers.specs.Arithmetic.{◌+₆₄◌, ◌/₆₄◌, decimal}
use Rattle.numbers.specs.Ceiling.{ceiling_of}
use Rattle.grid.specs.declared.Grid.{Grid}
use Rattle.sizing.specs.declared.Extent.{Extent}
use Rattle.sizing.specs.declared.Size.{Size}

-- How many cells of a length an axis takes: the ceiling of (width + 1e-9) / cell size. A count has 32 bits, which is more than a build needs: on document
-- 01's domain it is the ceiling itself (`tried_counted`).
unfoldable pub count_on : Float → Float → ℕ
count_on width size = min (ceiling_of ((width +₆₄ decimal 1 1000000000) /₆₄ size)) (2 ^ 32 - 1)

-- the grid of a size: columns from the width and cell_width, rows from the height and cell_height
unfoldable pub grid_of : Extent → Size → Grid
unfolding count_on
grid_of e s =
    record {
      min_x = e.min_x;
      min_y = e.min_y;
      cell_width = s.cell_width;
      cell_height = s.cell_height;
      cols = count_on e.width s.cell_width;
      rows = count_on e.height s.cell_height;
    }

-- no lines: minima 0, sizes 1 and 1, 0 by 0
unfoldable pub empty_grid : Grid
empty_grid =
    record {
      min_x = decimal 0 1;
      min_y = decimal 0 1;
      cell_width = decimal 1 1;
      cell_height = decimal 1 1;
      cols = 0;
      rows = 0;
    }
