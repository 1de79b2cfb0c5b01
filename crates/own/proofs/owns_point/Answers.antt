-- `own::owns_point` meets its contract: one axis after the other. Assumes nothing.
use Rattle.own.specs.Own.{owns_on, owns_point}
use Rattle.own.proofs.Tests.{both, not_both}
use Rattle.own.proofs.owns_point.Goals as goal

pub returns-then-owns : goal.returns-then-owns
unfolding owns_point
returns-then-owns c = both owns_on _ _ _ _ _ c.owns.ensures c.x_axis.ensures _ _ _ _ _ c.owns-then-owns.ensures c.y_axis.ensures c.if-owns.true

pub returns : goal.returns
unfolding owns_point
returns c = not_both owns_on _ _ _ _ _ c.owns.ensures c.x_axis.ensures _ c.if-owns.false
