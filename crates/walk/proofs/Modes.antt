-- The table of sides and modes: what the Rust's mode is in document 01's words, and where the modes agree. Assumes nothing.
use mathlib.Core.Path.{◌≡◌, refl}
use mathlib.Core.Bool.{Bool, true, false, cond}
use lib.Ieee.{Float, lt}
use Rattle.numbers.specs.Away.{round_away}
use Rattle.grid.specs.declared.Axis.{Axis}
use Rattle.grid.specs.declared.Grid.{Grid}
use Rattle.grid.specs.declared.Segment.{Segment}
use Rattle.grid.specs.declared.Side.{Side}
use Rattle.grid.specs.declared.Side.TheVariants.{Off, Above, Below}
use Rattle.grid.specs.Axes.{x_axis, y_axis, scaled_on, near_whole, boundary_on, side_of, side_on}
use Rattle.walk.specs.declared.Mode.{Mode}
use Rattle.walk.specs.declared.Mode.TheVariants.{Rust, Sided, Covering}
use Rattle.walk.specs.declared.Neighbour.{Neighbour}
use Rattle.walk.specs.declared.Neighbour.TheVariants.{None, Lower}
use Rattle.walk.specs.Neighbours.{neighbour_for, neighbour_on, along_on, line_of, endpoint_of}
use Rattle.walk.specs.Segment.{pushes_of, answered, by_turns, turns_of, turning, segment_of}

-- ---- the table, by rows of the code

-- a row, where the mode and the side are known
pub by_row : {mode m : Mode} {side s : Side} {to : Neighbour} → mode ≡ m → side ≡ s → to ≡ neighbour_for m s → to ≡ neighbour_for mode side
by_row e d h = rw (e, d) h

pub covering_none : {mode : Mode} (side : Side) → mode ≡ Covering → None ≡ neighbour_for mode side
unfolding neighbour_for
covering_none side e = rw e

-- ---- the Rust's mode is document 01's rule: on a boundary, on either side of it, the lower neighbour

pub rust_neighbour : (a : Axis) (v : Float) → neighbour_on Rust a v ≡ cond (boundary_on a v) Lower None
unfolding neighbour_on neighbour_for boundary_on side_on side_of
rust_neighbour a v = go (near_whole (scaled_on a v)) (lt (scaled_on a v) (round_away (scaled_on a v)))
  where
    go : (p q : Bool) → neighbour_for Rust (cond p (cond q Below Above) Off) ≡ cond p Lower None
    go true true = refl
    go true false = refl
    go false q = refl

-- ---- where no coordinate is just below a boundary, the modes agree

-- a side at which both modes that walk by turns add the same
abbrev pub Alike : Side → Type 0
Alike side = neighbour_for Sided side ≡ neighbour_for Rust side

pub alike_unless_below : (side : Side) → (side ≡ Below → ⊥) → Alike side
unfolding neighbour_for
alike_unless_below Off h = refl
alike_unless_below Above h = refl
alike_unless_below Below h = absurd (h refl)

module _ (g : Grid) (line : Segment)
    (sx : Alike (side_on (x_axis g) line.start_x)) (sy : Alike (side_on (y_axis g) line.start_y))
    (ex : Alike (side_on (x_axis g) line.end_x)) (ey : Alike (side_on (y_axis g) line.end_y)) where
  pub modes_agree : segment_of Sided g line ≡ segment_of Rust g line
  unfolding segment_of turning turns_of by_turns answered pushes_of line_of endpoint_of along_on neighbour_on
  modes_agree = rw (sx, sy, ex, ey)
