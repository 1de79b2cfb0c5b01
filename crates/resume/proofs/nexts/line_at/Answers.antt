-- `resume::nexts::line_at` meets its contract. Assumes nothing.
use Rattle.resume.proofs.AsIs.{line_first, line_then}
use Rattle.resume.proofs.nexts.line_at.Goals as goal

pub returns-then-place-reach : goal.returns-then-place-reach
returns-then-place-reach c = line_first _ _ _ _ c.if-place-reach.true

pub returns : goal.returns
returns c = line_then _ _ _ _ _ _ c.if-place-reach.false c.wide.ensures c.least.ensures
