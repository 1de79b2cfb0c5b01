-- `own::holds_point` meets its contract: one axis after the other. Assumes nothing.
use Rattle.own.specs.Own.{holds_on}
use Rattle.own.proofs.Tests.{both, not_both}
use Rattle.own.proofs.holds_point.Goals as goal

pub returns-then-holds : goal.returns-then-holds
returns-then-holds c = both holds_on _ _ _ _ _ c.holds.ensures c.x_axis.ensures _ _ _ _ _ c.holds-then-holds.ensures c.y_axis.ensures c.if-holds.true

pub returns : goal.returns
returns c = not_both holds_on _ _ _ _ _ c.holds.ensures c.x_axis.ensures _ c.if-holds.false
