-- `through::scan::put_whole` meets its contract. The invariant: the entries before u are done, where all bytes are 1. Assumes nothing.
use Rattle.through.proofs.ScanTurns.{fill_start, fill_more, fill_end}
use Rattle.through.proofs.scan.put_whole.Goals as goal

pub loop-u-init : goal.loop-u-init
loop-u-init c = fill_start _ _ _ _ _ c.requires

pub loop-u-preserved : goal.loop-u-preserved
loop-u-preserved c = fill_more _ _ _ _ _ _ _ _ _ c.loop-u.invariant c.loop-u-test.true

pub returns : goal.returns
returns c = fill_end _ _ _ _ _ _ _ _ _ c.loop-u.invariant c.loop-u-test.false
