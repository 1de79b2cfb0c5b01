-- `through::scan::whole` meets its contract. The invariant: where all that were seen are 1, the bytes before u are. Assumes nothing.
use mathlib.Core.Path.{sym}
use mathlib.Core.Bool.{true≢false}
use Rattle.through.proofs.ScanTurns.{whole_start, whole_more, whole_end}
use Rattle.through.proofs.scan.whole.Goals as goal

pub returns-then-many-le16 : goal.returns-then-many-le16
returns-then-many-le16 c = λ e. absurd (true≢false (sym e))

pub loop-u-init : goal.loop-u-init
loop-u-init c = whole_start _ _ c.requires

pub loop-u-preserved : goal.loop-u-preserved
loop-u-preserved c = whole_more _ _ _ _ c.loop-u.invariant c.loop-u-test.true

pub returns : goal.returns
returns c = whole_end _ _ _ _ c.loop-u.invariant c.loop-u-test.false
