-- The floor of a float: as a float, and as an index below a count. Definitions only, over whole numbers.
use Rattle.std.specs.Prelude.{ℕ, ◌+◌, ◌-◌, ◌*◌, ◌/◌, min, true, false, Float}
use Rattle.std.specs.Float.{nan, inf, fin, binary64}
use Rattle.std.specs.Float.Ieee.{up, down, round}

-- IEEE 754's roundToIntegralTowardNegative. The size of m * 2 ^ e is M / D: its whole part above zero, and below zero the
-- least whole number that is no smaller. A zero keeps its sign. (Laws: `floor_plus`, `floor_minus`, `floor_mono` of proofs/FloorLaws.)
unfoldable pub floor_of : Float → Float
unfolding round
floor_of nan = nan
floor_of (inf s) = inf s
floor_of (fin false m e) = round binary64 false (m * up e / down e) 1
floor_of (fin true m e) = round binary64 true ((m * up e + (down e - 1)) / down e) 1

-- The floor brought into 0 .. count - 1. A NaN gives 0, and so does a count of 0. (Laws: `clamped_below`, `clamped_part`, `clamped_last`, `clamped_mono`.)
unfoldable pub clamped_floor : Float → ℕ → ℕ
clamped_floor nan count = 0
clamped_floor (inf true) count = 0
clamped_floor (inf false) count = count - 1
clamped_floor (fin true m e) count = 0
clamped_floor (fin false m e) count = min (m * up e / down e) (count - 1)
