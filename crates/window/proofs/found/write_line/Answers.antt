-- `window::found::write_line` meets its contract. Assumes nothing.
use mathlib.Core.Path.{refl}
use Rattle.window.proofs.Those.{one_more, none_more}
use Rattle.window.proofs.found.write_line.Goals as goal

pub returns-then-is_met : goal.returns-then-is_met
returns-then-is_met c = one_more _ _ _ _ _ _ _ c.is_met.ensures c.if-is_met.true refl c.put.ensures

pub returns : goal.returns
returns c = none_more _ _ _ _ _ c.is_met.ensures c.if-is_met.false
