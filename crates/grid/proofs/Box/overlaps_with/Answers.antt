-- `grid::Box::overlaps_with` meets its contract. Assumes nothing.
use mathlib.Core.Path.{refl}
use Rattle.grid.specs.Boxes.{overlaps}
use Rattle.grid.proofs.Box.overlaps_with.Goals as goal

pub returns : goal.returns
unfolding overlaps
returns c = refl
