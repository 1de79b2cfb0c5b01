-- Which lines' boxes overlap. Definitions only.
use Rattle.std.specs.Prelude.{ℕ, Bool}
use Rattle.grid.specs.Domain.{Lines, segment_at}
use Rattle.grid.specs.Boxes.{box_of, overlaps}

-- the boxes of lines a and b overlap
unfoldable pub overlap : Lines → ℕ → ℕ → Bool
overlap ls a b = overlaps (box_of (segment_at ls a)) (box_of (segment_at ls b))
