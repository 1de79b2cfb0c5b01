-- The checks before the walk: which refusals they are, and what a scratch and a grid say that pass them. Assumes nothing.
use Rattle.std.specs.Prelude.{Ok}
use mathlib.Core.Path.{◌≡◌, refl, sym, ◌∙◌}
use Prim.Native.Nat.{ℕ, ◌≤◌}
use mathlib.Core.Bool.{true, false}
use borrow.Author.Tests.{le-leb, leb-true}
use Rattle.refusals.specs.Refusals.{unless, and_then, clears}
use Rattle.refusals.proofs.Checks.{unless_fine, and_then_left, and_then_right}
use Rattle.refusals.proofs.Answers.{then_fine}
use Rattle.refusals.proofs.Leaving.{Clearing, clearing_unless, clearing_then}
use Rattle.grid.specs.declared.Grid.{Grid}
use Rattle.grid.specs.declared.Segment.{Segment}
use Rattle.grid.specs.Domain.{shape, fit, scratch_check, segment_check, grid_check}
use Rattle.grid.proofs.Fine.{scratch_spares, grid_spares}
use Rattle.grid.proofs.Shapes.{fit_shape}
use Rattle.cover.specs.Covering.{scratch_shape_check}
use Rattle.walk.specs.declared.Mode.{Mode}
use Rattle.walk.specs.Segment.{segment_of, entry_check, reach_of, as_is_of}

-- ---- 3, and 8 by the counts alone

module _ (n : ℕ) (g : Grid) where
  room_fine : 16384 ≤ n → shape g.cols g.rows ≡ true → scratch_shape_check n g ≡ Ok tt
  unfolding scratch_shape_check scratch_check and_then unless
  room_fine h k = rw (le-leb 16384 n h, k)

  -- of a scratch and a grid that pass 3 and 8 a walk as they are is the walk
  pub as_is : (mode : Mode) (line : Segment) → 16384 ≤ n → fit g ≡ true → as_is_of mode n g line ≡ segment_of mode g line
  unfolding as_is_of
  as_is mode line h k = then_fine _ _ (room_fine h (fit_shape g k))

-- ---- 3, 1 and 8

module _ (g : Grid) (line : Segment) where
  module _ (n : ℕ) where
    -- none of them refuses by 4 to 7
    pub entry_spares : Clearing false (entry_check n g line)
    unfolding entry_check segment_check clears
    entry_spares = clearing_then (scratch_spares n) (clearing_then (clearing_unless _ 1 0 refl) (grid_spares g))

    -- what a scratch and a grid say that pass them
    pub entry_room : entry_check n g line ≡ Ok tt → 16384 ≤ n
    unfolding entry_check scratch_check
    entry_room h = leb-true 16384 n (unless_fine _ 3 0 (and_then_left _ _ h))

    pub entry_fit : entry_check n g line ≡ Ok tt → fit g ≡ true
    unfolding entry_check grid_check
    entry_fit h = unless_fine (fit g) 8 0 (and_then_right _ _ (and_then_right _ _ h))

    -- where they pass, the walk of a grid and a segment as they are is the one that checks them
    pub as_is_checked : (mode : Mode) → entry_check n g line ≡ Ok tt → as_is_of mode n g line ≡ reach_of mode n g line
    unfolding reach_of
    as_is_checked mode h = as_is n g mode line (entry_room h) (entry_fit h) ∙ sym (then_fine _ _ h)
