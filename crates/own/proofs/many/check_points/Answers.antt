-- `own::many::check_points` meets its contract: no point before the one that it looks at was bad. Assumes nothing.
use Rattle.std.proofs.Common.{sym, ◌∙◌, arith}
use borrow.Author.Tests.{not-true, not-false}
use Rattle.own.specs.Many.{point_fits}
use Rattle.own.proofs.ManyLaws.{sought_none, sought_more, sought_bad, sought_over}
use Rattle.own.proofs.many.check_points.Goals as goal

pub loop-i-init : goal.loop-i-init
loop-i-init c = sought_none _ _ c.requires

pub returns-then-not-is_point : goal.returns-then-not-is_point
unfolding point_fits
returns-then-not-is_point c = sought_bad c.loop-i.invariant (omega arith) (sym c.is_point.ensures ∙ not-true _ c.if-not-is_point.true-raw)

pub loop-i-preserved : goal.loop-i-preserved
unfolding point_fits
loop-i-preserved c = sought_more c.loop-i.invariant (omega arith) (sym c.is_point.ensures ∙ not-false _ c.if-not-is_point.false-raw)

pub returns : goal.returns
returns c = sought_over c.loop-i.invariant (omega arith)
