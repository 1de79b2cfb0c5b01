-- Document 01, "Ownership and snapping", its second paragraph, with document 02's change 13: Grid is the only strategy. Each float step rounds once,
-- in the written order. Definitions only.
use Rattle.refusals.specs.declared.Refusal.{Refusal}
use Rattle.std.specs.Prelude.{Ok, Err, Result, ℕ, Bool, cond, ◌&&◌, ◌||◌, eqb, Float}
use Rattle.std.specs.Float.Ieee.{le, eq}
use Rattle.numbers.specs.Arithmetic.{◌*₆₄◌, ◌/₆₄◌, decimal}
use Rattle.numbers.specs.Away.{round_away}
use Rattle.refusals.specs.Refusals.{Check, unless, gives, ◌then◌, answer_by}
use Rattle.grid.specs.Domain.{point_check}
use Rattle.snap.specs.declared.Snapped.{Snapped}

-- ---- the checks, with document 01's number and value

-- a snap size: 0, or 1e-6 to 1e6
unfoldable pub snap_size : Float → Bool
snap_size size =
    eq size (decimal 0 1)
    || (le (decimal 1 1000000) size && le size (decimal 1000000 1))

-- 12: snap size unfit
unfoldable pub snap_size_check : Float → Check
snap_size_check size = unless (snap_size size) 12 0

-- 12: snap size or strategy unfit; 0 (Grid) is the only strategy
unfoldable pub snap_check : Float → ℕ → Check
snap_check size strategy = unless (snap_size size && eqb strategy 0) 12 0

-- ---- the answer

-- Grid: round half away of v / size, a zero signed as v / size, times size. (`round_away` keeps the sign of what it rounds.)
unfoldable pub grid_snap : Float → Float → Float
grid_snap size v = round_away (v /₆₄ size) *₆₄ size

-- one coordinate: size 0 returns it, any other snaps by Grid
unfoldable pub snap_of : Float → Float → Float
snap_of size v = cond (eq size (decimal 0 1)) v (grid_snap size v)

-- a point, after refusals 1 and 12
unfoldable pub snap_answer : Float → Float → Float → ℕ → Result Snapped Refusal
snap_answer x y size strategy =
    answer_by Err (λ snapped. snapped)
    (point_check x y then snap_check size strategy then gives (Ok (record { x = (snap_of size x); y = (snap_of size y) })))
