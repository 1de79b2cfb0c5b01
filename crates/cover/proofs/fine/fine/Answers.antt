-- `cover::fine::fine` meets its contract. Assumes nothing.
use mathlib.Core.Path.{ap, ◌∙◌}
use lib.Ieee.{Float}
use Rattle.numbers.specs.Floor.{clamped_floor}
use Rattle.cover.specs.Fine.{fine_on}
use Rattle.cover.proofs.Guarding.{cut_clamped, near_lt}
use Rattle.cover.proofs.fine.fine.Goals as goal

pub returns : goal.returns
unfolding fine_on
returns c = c.clamped_floor.ensures ∙ (ap (λ (u : Float). clamped_floor u 4294967295) c.units.ensures ∙ cut_clamped _ (near_lt _ _ c.requires))
