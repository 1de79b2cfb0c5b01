-- `own::ends::spanned` meets its contract, by the two ends of the axis. Assumes nothing.
use Rattle.own.proofs.EndLaws.{no_ends, under_ends, up_to_end}
use Rattle.own.proofs.ends.spanned.Goals as goal

pub returns-then-axis-eq0 : goal.returns-then-axis-eq0
returns-then-axis-eq0 c = no_ends _ _ c.if-axis-eq0.true

pub returns-then-low_edge-p : goal.returns-then-low_edge-p
returns-then-low_edge-p c = up_to_end _ _ c.if-axis-eq0.false _ c.low_edge.ensures c.if-low_edge-p.true _ c.high_edge.ensures

pub returns : goal.returns
returns c = under_ends _ _ c.if-axis-eq0.false _ c.low_edge.ensures c.if-low_edge-p.false
