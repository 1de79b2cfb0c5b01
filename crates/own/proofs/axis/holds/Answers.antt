-- `own::axis::holds` meets its contract, by the tests of the edges. Assumes nothing.
use Rattle.own.proofs.Tests.{holds_under, holds_over}
use Rattle.own.proofs.axis.holds.Goals as goal

pub returns-then-low_edge-p : goal.returns-then-low_edge-p
returns-then-low_edge-p c = holds_over _ _ _ _ c.low_edge.ensures _ c.high_edge.ensures c.if-low_edge-p.true

pub returns : goal.returns
returns c = holds_under _ _ _ _ c.low_edge.ensures c.if-low_edge-p.false
