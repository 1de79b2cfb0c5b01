-- Document 01, "The build": the bounds over all endpoints. Definitions only.
use Rattle.std.specs.Prelude.{ℕ, zero, suc, ◌-◌, ◌*◌, ◌^◌, min, List, length, slice_index_or, Float}
use Rattle.std.specs.Float.{nan}
use Rattle.numbers.specs.Arithmetic.{◌-₆₄◌, decimal, minus_decimal}
use Rattle.numbers.specs.Order.{least_of, greatest_of}
use Rattle.grid.specs.Domain.{Lines}
use Rattle.sizing.specs.declared.Extent.{Extent}

-- One axis, of which line i goes from entry i of the starts to entry i of the ends. Of each line's two coordinates one is picked, and of that and
-- what was picked of the lines before it one again; `none` stands for no lines.
unfoldable pub picked : (Float → Float → Float) → Float → List Float → List Float → ℕ → Float
picked pick none starts ends zero = none
picked pick none starts ends (suc i) = pick (picked pick none starts ends i) (pick (slice_index_or starts i nan) (slice_index_or ends i nan))

-- the least and the greatest coordinate of the first n lines; of no lines they are the largest finite value, (2 ^ 53 - 1) * 2 ^ 971, and its negative
unfoldable pub lowest : List Float → List Float → ℕ → Float
unfolding picked
lowest starts ends n = picked least_of (decimal ((2 ^ 53 - 1) * 2 ^ 971) 1) starts ends n

unfoldable pub highest : List Float → List Float → ℕ → Float
unfolding picked
highest starts ends n = picked greatest_of (minus_decimal ((2 ^ 53 - 1) * 2 ^ 971) 1) starts ends n

-- how far they are apart: the greatest less the least
unfoldable pub reach : List Float → List Float → ℕ → Float
reach starts ends n = highest starts ends n -₆₄ lowest starts ends n

-- the lines that every slice has
abbrev pub whole : Lines → ℕ
whole ls = min (min (length ls.start_x) (length ls.start_y)) (min (length ls.end_x) (length ls.end_y))

-- the lower corner of all lines, and how far they reach from it: each axis for itself
unfoldable pub extent_of : Lines → Extent
unfolding lowest reach
extent_of ls =
    record {
      min_x = lowest ls.start_x ls.end_x (whole ls);
      min_y = lowest ls.start_y ls.end_y (whole ls);
      width = reach ls.start_x ls.end_x (whole ls);
      height = reach ls.start_y ls.end_y (whole ls);
    }
