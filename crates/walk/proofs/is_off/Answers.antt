-- `walk::is_off` meets its contract. Assumes nothing.
use mathlib.Core.Path.{sym, ◌∙◌}
use Rattle.walk.proofs.Reaching.{turning_on, covering_off}
use Rattle.walk.proofs.is_off.Goals as goal

pub returns-then-is_turning : goal.returns-then-is_turning
returns-then-is_turning c = sym (turning_on _ _ _ (sym c.is_turning.ensures ∙ c.if-is_turning.true))

pub returns : goal.returns
returns c = c.is_off.ensures ∙ sym (covering_off _ _ _ (sym c.is_turning.ensures ∙ c.if-is_turning.false))
