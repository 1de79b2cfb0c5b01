-- The lesser and the greater of two floats, and the size of one. Definitions only.
use Rattle.std.specs.Prelude.{false, cond, Float}
use Rattle.std.specs.Float.{nan, inf, fin}
use Rattle.std.specs.Float.Ieee.{lt, is_nan}

-- The lesser of two: Rust's `f64::min`. A NaN gives way to the other, and of two that are equal the first stays.
unfoldable pub least_of : Float → Float → Float
unfolding lt is_nan
least_of a b = cond (lt b a) b (cond (is_nan a) b a)

-- The greater of two: Rust's `f64::max`. A NaN gives way to the other, and of two that are equal the first stays.
unfoldable pub greatest_of : Float → Float → Float
unfolding lt is_nan
greatest_of a b = cond (lt a b) b (cond (is_nan a) b a)

-- The size of a float: its sign cleared. A NaN has none. (Laws: `magnitude_finite`, `magnitude_within` of proofs/OrderLaws.)
unfoldable pub magnitude_of : Float → Float
magnitude_of nan = nan
magnitude_of (inf s) = inf false
magnitude_of (fin s m e) = fin false m e
