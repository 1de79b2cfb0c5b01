-- The bounding box of a segment, and when two boxes overlap. Definitions only.
use Rattle.std.specs.Prelude.{Bool, ◌&&◌}
use Rattle.std.specs.Float.Ieee.{le}
use Rattle.numbers.specs.Order.{least_of, greatest_of}
use Rattle.grid.specs.declared.Segment.{Segment}
use Rattle.grid.specs.declared.Box.{Box}

-- a segment's box goes from the lesser to the greater of its two ends on each axis
unfoldable pub box_of : Segment → Box
box_of s =
    record {
      min_x = least_of s.start_x s.end_x;
      min_y = least_of s.start_y s.end_y;
      max_x = greatest_of s.start_x s.end_x;
      max_y = greatest_of s.start_y s.end_y;
    }

-- "Boxes overlap if four comparisons hold with equality allowed."
unfoldable pub overlaps : Box → Box → Bool
overlaps a b =
    le b.min_x a.max_x
    && (le a.min_x b.max_x && (le b.min_y a.max_y && le a.min_y b.max_y))
