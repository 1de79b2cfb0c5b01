-- `added::checks::check_edge` meets its contract. Assumes nothing.
use mathlib.Core.Bool.{Bool}
use mathlib.Core.Path.{ap, ◌∙◌}
use Rattle.refusals.specs.Refusals.{unless}
use Rattle.added.specs.Added.{edge_check}
use Rattle.added.proofs.checks.check_edge.Goals as goal

pub returns : goal.returns
unfolding edge_check
returns c = c.refuse_unless.ensures ∙ ap (λ (b : Bool). unless b 14 0) c.is_inside.ensures
