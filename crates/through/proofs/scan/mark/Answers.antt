-- `through::scan::mark` meets its contract. The invariant: the bytes before u are the answers. Assumes nothing.
use Rattle.through.proofs.ScanTurns.{mark_start, mark_more, mark_end}
use Rattle.through.proofs.scan.mark.Goals as goal

pub loop-u-init : goal.loop-u-init
loop-u-init c = mark_start _ _ _ _ _ c.requires

pub loop-u-preserved : goal.loop-u-preserved
loop-u-preserved c = mark_more _ _ _ _ _ _ _ _ _ _ _ c.loop-u.invariant c.loop-u-test.true _ c.byte_of.ensures

pub returns : goal.returns
returns c = mark_end _ _ _ _ _ _ _ _ _ _ _ c.loop-u.invariant c.loop-u-test.false
