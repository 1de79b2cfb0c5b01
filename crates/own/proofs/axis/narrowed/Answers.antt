-- `own::axis::narrowed` meets its contract, by the high edge that it asks. Assumes nothing.
use Rattle.std.proofs.Common.{arith}
use Rattle.own.proofs.Halving.{lower_half, upper_half}
use Rattle.own.proofs.axis.narrowed.Goals as goal

pub returns-then-p-high_edge : goal.returns-then-p-high_edge
returns-then-p-high_edge c = lower_half _ _ c.requires.searchable _ _ _ c.requires.halved (omega arith) (omega arith) _ c.high_edge.ensures c.if-p-high_edge.true

pub returns-then-at-left : goal.returns-then-at-left
returns-then-at-left c = upper_half _ _ c.requires.searchable _ _ _ c.requires.halved (omega arith) (omega arith) _ c.high_edge.ensures c.if-p-high_edge.false
