-- `own::axis::owns` meets its contract, by the tests of the edges and of the last index. Assumes nothing.
use Rattle.own.proofs.Tests.{owns_under, owns_within, owns_last, owns_past}
use Rattle.own.proofs.axis.owns.Goals as goal

pub returns-then-p-high : goal.returns-then-p-high
returns-then-p-high c = owns_within _ _ _ _ c.low_edge.ensures _ c.high_edge-high.ensures c.if-low_edge-p.true c.if-p-high.true

pub returns-then-i-axis : goal.returns-then-i-axis
returns-then-i-axis c = owns_last _ _ _ _ c.low_edge.ensures _ c.high_edge-high.ensures c.if-low_edge-p.true c.if-p-high.false c.if-i-axis.true

pub returns-then-low_edge-p : goal.returns-then-low_edge-p
returns-then-low_edge-p c = owns_past _ _ _ _ c.low_edge.ensures _ c.high_edge-high.ensures c.if-low_edge-p.true c.if-p-high.false c.if-i-axis.false

pub returns : goal.returns
returns c = owns_under _ _ _ _ c.low_edge.ensures c.if-low_edge-p.false
