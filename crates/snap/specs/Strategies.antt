-- Document 02, change 13: whether document 01's two strategies, Grid and GeosCompat, give a coordinate the same bits. GeosCompat snaps nothing any
-- more, and is defined here for this question alone. Definitions only.
use Rattle.std.specs.Prelude.{Ok, Err, Result, Bool, cond, eqb, Float}
use Rattle.std.specs.Float.{nan, inf, fin, binary64}
use Rattle.std.specs.Float.Ieee.{round, eq, to_bits}
use Rattle.numbers.specs.Arithmetic.{◌+₆₄◌, ◌*₆₄◌, ◌/₆₄◌, decimal}
use Rattle.numbers.specs.Floor.{floor_of}
use Rattle.numbers.specs.Order.{magnitude_of}
use Rattle.refusals.specs.declared.Refusal.{Refusal}
use Rattle.refusals.specs.Refusals.{gives, ◌then◌, answer_by}
use Rattle.grid.specs.Domain.{coordinate_check}
use Rattle.snap.specs.Snap.{snap_size_check, snap_of}

-- 1 or -1 by the sign bit, negative zero giving -1; a NaN has no sign
unfoldable pub sign_one : Float → Float
sign_one nan = nan
sign_one (inf s) = round binary64 s 1 1
sign_one (fin s m e) = round binary64 s 1 1

-- GeosCompat: floor of (|v / size| + 0.5), times the sign of v / size, times size
unfoldable pub geos_snap : Float → Float → Float
geos_snap size v =
    let scaled = v /₆₄ size in
    floor_of (magnitude_of scaled +₆₄ decimal 1 2) *₆₄ sign_one scaled *₆₄ size

-- one coordinate: size 0 returns it, any other snaps by GeosCompat
unfoldable pub geos_of : Float → Float → Float
geos_of size v = cond (eq size (decimal 0 1)) v (geos_snap size v)

-- the two strategies give the same bits
unfoldable pub same_bits : Float → Float → Bool
same_bits size v = eqb (to_bits binary64 (snap_of size v)) (to_bits binary64 (geos_of size v))

-- ---- the answer

abbrev pub agreed : Bool → Result Bool Refusal
agreed same = Ok same

-- after refusals 1 and 12
unfoldable pub agreement_answer : Float → Float → Result Bool Refusal
agreement_answer v size =
    answer_by Err agreed (coordinate_check v then snap_size_check size then gives (same_bits size v))
