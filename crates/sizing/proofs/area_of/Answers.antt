-- `sizing::area_of` meets its contract. Assumes nothing.
use Rattle.std.proofs.Common.{◌∙◌}
use Rattle.sizing.proofs.Steps.{area_lines, area_itself}
use Rattle.sizing.proofs.area_of.Goals as goal

pub returns-then-area : goal.returns-then-area
returns-then-area c = c.nearest_u64_to_f64.ensures ∙ area_lines _ _ c.if-area.true

pub returns : goal.returns
returns c = area_itself _ _ c.if-area.false
