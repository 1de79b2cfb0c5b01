-- `added::placing::goes_to` meets its contract. Assumes nothing.
use Rattle.std.specs.Prelude.{Ok, Result}
use mathlib.Core.Path.{ap, ◌∙◌}
use Rattle.refusals.specs.declared.Refusal.{Refusal}
use Rattle.walk.specs.declared.Reached.{Reached}
use Rattle.added.proofs.Going.{goes_listed, goes_global, goes_everywhere, goes_over}
use Rattle.added.proofs.placing.goes_to.Goals as goal

pub returns-then-k-gt2048 : goal.returns-then-k-gt2048
returns-then-k-gt2048 c = goes_global _ _ _ c.requires c.segment_cells-walked.result c.segment_cells-walked.ensures _ (c.in-Ok.is ∙ ap {B = Result Reached Refusal} Ok c.in-Found.is) c.if-k-gt2048.true

pub returns-else-k-gt2048 : goal.returns-else-k-gt2048
returns-else-k-gt2048 c = goes_listed _ _ _ c.requires c.segment_cells-walked.result c.segment_cells-walked.ensures _ (c.in-Ok.is ∙ ap {B = Result Reached Refusal} Ok c.in-Found.is) c.if-k-gt2048.false

pub returns-in-Everywhere : goal.returns-in-Everywhere
returns-in-Everywhere c = goes_everywhere _ _ _ c.requires c.segment_cells-walked.result c.segment_cells-walked.ensures (c.in-Ok.is ∙ ap {B = Result Reached Refusal} Ok c.in-Everywhere.is)

pub returns-in_default : goal.returns-in_default
returns-in_default c = goes_over _ _ _ c.requires c.segment_cells-walked.result c.segment_cells-walked.ensures _ c.in_default.is
