-- The words of a build's answer begin with those that say its grid. Assumes nothing.
use Rattle.std.specs.Prelude.{Ok}
use mathlib.Core.Path.{◌≡◌}
use mathlib.Core.List.{[], ◌∷◌}
use Prim.Native.Nat.{◌^◌, ◌<◌}
use lib.Dec.{T}
use lib.Ieee.{binary64, fits}
use Rattle.build.specs.declared.Standing.{Standing}
use Rattle.grid.specs.Words.{grid_by}
use Rattle.grid.proofs.Saying.{says}
use Rattle.replies.specs.Answers.{of_built}

-- of floats and counts that the machine holds
pub built_says : (t : Standing) → T (fits binary64 t.grid.min_x) → T (fits binary64 t.grid.min_y) → T (fits binary64 t.grid.cell_width) → T (fits binary64 t.grid.cell_height) →
    t.grid.cols < 2 ^ 32 → t.grid.rows < 2 ^ 32 → grid_by (of_built (Ok t)).values ≡ t.grid
unfolding of_built
built_says t x y w h c r = says t.grid (t.items ∷ t.globals ∷ []) x y w h c r
