-- `tables::rises` meets its contract. The invariant: the entries before `i` were looked at, and `all` says whether they rise. Assumes nothing.
use native.Mathlib.Omega.{arith}
use Rattle.tables.proofs.Climbing.{climbed_first, climbed_more, climbed_last}
use Rattle.tables.proofs.rises.Goals as goal

pub loop-i-init : goal.loop-i-init
loop-i-init c = climbed_first _ c.requires

pub loop-i-preserved : goal.loop-i-preserved
loop-i-preserved c =
    let l = c.loop-i in
    climbed_more c.args.list.now l.all l.i (omega arith) l.invariant

pub returns : goal.returns
returns c = climbed_last c.args.list.now c.loop-i.all c.loop-i.i c.loop-i-test.false c.loop-i.invariant
