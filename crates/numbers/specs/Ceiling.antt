-- The ceiling of a float as a whole number of 64 bits: Rust's `ceil() as usize`. Definitions only, over whole numbers.
use Rattle.std.specs.Prelude.{ℕ, ◌+◌, ◌-◌, ◌*◌, ◌/◌, ◌^◌, min, true, false, Float}
use Rattle.std.specs.Float.{nan, inf, fin}
use Rattle.std.specs.Float.Ieee.{up, down}

-- m * 2 ^ e is M / D. A NaN and what is not above 0 give 0, and what is too large the largest. (Laws: `ceiling_cover`, `ceiling_most`, `ceiling_times`,
-- `ceiling_mono` of proofs/CeilingLaws.)
unfoldable pub ceiling_of : Float → ℕ
ceiling_of nan = 0
ceiling_of (inf true) = 0
ceiling_of (inf false) = 2 ^ 64 - 1
ceiling_of (fin true m e) = 0
ceiling_of (fin false m e) = min ((m * up e + (down e - 1)) / down e) (2 ^ 64 - 1)
