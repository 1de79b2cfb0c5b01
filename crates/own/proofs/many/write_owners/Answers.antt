-- `own::many::write_owners` meets its contract: the first i answers are written, and the others are as they were. Assumes nothing.
use Rattle.std.proofs.Common.{arith}
use Rattle.own.proofs.ManyLaws.{telling_none, telling_more, telling_over, askable, point_at}
use Rattle.own.proofs.many.write_owners.Goals as goal

pub loop-i-init : goal.loop-i-init
loop-i-init c = telling_none _ _ _ _ c.requires.alike c.requires.room

pub number_at-requires : goal.number_at-requires
number_at-requires c = askable _ _ _ c.requires.fits (point_at _ _ _ c.requires.points (omega arith))

pub loop-i-preserved : goal.loop-i-preserved
loop-i-preserved c = telling_more c.loop-i.invariant _ (omega arith) c.number_at.ensures

pub returns : goal.returns
returns c = telling_over c.loop-i.invariant (omega arith)
