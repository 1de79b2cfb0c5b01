-- How much is pushed in all: a line that adds a neighbour on an axis has d = 0 there, and walks few cells. Assumes nothing.
use mathlib.Core.Path.{◌≡◌, refl}
use Prim.Native.Nat.{ℕ, ◌+◌, ◌*◌, ◌≤◌, ◌<◌}
use native.Mathlib.Omega.{arith}
use mathlib.Core.Bool.{Bool, true, false, cond}
use mathlib.Core.List.{List}
use lib.ListN.{length}
use lib.Ieee.{Float, binary64, sub, eq}
use Rattle.grid.specs.declared.Axis.{Axis}
use Rattle.grid.specs.declared.Grid.{Grid}
use Rattle.grid.specs.declared.Segment.{Segment}
use Rattle.grid.specs.Axes.{x_axis, y_axis}
use Rattle.turns.specs.Turns.{nought}
use Rattle.turns.proofs.Few.{Unmoved, Few}
use Rattle.walk.specs.declared.Mode.{Mode}
use Rattle.walk.specs.declared.Neighbour.{Neighbour}
use Rattle.walk.specs.declared.Neighbour.TheVariants.{None}
use Rattle.walk.specs.Neighbours.{neighbour_on, along_on}
use Rattle.walk.specs.Inside.{many_of, share, share_of}
use Rattle.walk.proofs.Added.{share_room}

-- a line that adds a neighbour on an axis has d = 0 there
along_zero : (mode : Mode) (a : Axis) (start end : Float) → 0 < many_of (along_on mode a start end) → Unmoved start end
unfolding along_on many_of
along_zero mode a start end p = go (eq (sub binary64 end start) nought) p
  where
    go : (b : Bool) → 0 < many_of (cond b (neighbour_on mode a start) None) → b ≡ true
    go true h = refl
    go false h = absurd (omega arith)

-- ---- the room in the scratch

module _ (mode : Mode) (g : Grid) (line : Segment) where
  abbrev in_x : Neighbour
  in_x = along_on mode (x_axis g) line.start_x line.end_x

  abbrev in_y : Neighbour
  in_y = along_on mode (y_axis g) line.start_y line.end_y

  -- of as many cells as were walked, or fewer
  pub share_few : (xs : List ℕ) → Few g line xs → (m : ℕ) → m ≤ length xs → m + m * share in_x in_y + 6 ≤ 15008
  share_few xs f m l =
      share_room in_x in_y m (omega (arith, f.all))
      (λ p. omega (arith, f.up (along_zero mode (x_axis g) line.start_x line.end_x p)))
      (λ q. omega (arith, f.across (along_zero mode (y_axis g) line.start_y line.end_y q)))
      (λ p q. omega (arith, f.point (along_zero mode (x_axis g) line.start_x line.end_x p) (along_zero mode (y_axis g) line.start_y line.end_y q)))

  pub room : (xs : List ℕ) → Few g line xs → (m : ℕ) → m ≤ length xs → m + m * share_of mode g line + 6 ≤ 15008
  unfolding share_of
  room xs f m l = share_few xs f m l

  pub share_is : (x y : Neighbour) → x ≡ along_on mode (x_axis g) line.start_x line.end_x → y ≡ along_on mode (y_axis g) line.start_y line.end_y
      → share_of mode g line ≡ share x y
  unfolding share_of
  share_is x y e f = rw (e, f)
