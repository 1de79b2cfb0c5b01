-- `sizing::serial_bounds` meets its contract. Assumes nothing.
use Rattle.std.proofs.Common.{min, ◌∙◌, ap₂}
use Rattle.sizing.proofs.Steps.{extent_made}
use Rattle.sizing.proofs.serial_bounds.Goals as goal

pub returns : goal.returns
returns c =
    extent_made _ _
    (c.fewer-n.ensures ∙ ap₂ min c.fewer.ensures c.fewer-2.ensures) c.span_of-x.ensures.0 c.span_of-x.ensures.1 c.span_of-y.ensures.0 c.span_of-y.ensures.1
