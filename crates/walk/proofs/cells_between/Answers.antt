-- `walk::cells_between` meets its contract: by turns, or the covering walk. Assumes nothing.
use mathlib.Core.Path.{sym, ◌∙◌}
use Rattle.walk.proofs.Reaching.{reached_turns, reached_covers}
use Rattle.walk.proofs.cells_between.Goals as goal

pub returns-then-is_turning : goal.returns-then-is_turning
returns-then-is_turning c = reached_turns _ _ _ _ (sym c.is_turning.ensures ∙ c.if-is_turning.true) c.cells_by_turns.ensures

pub returns : goal.returns
returns c = reached_covers _ _ _ _ (sym c.is_turning.ensures ∙ c.if-is_turning.false) c.cells_covered.ensures
