-- `counts::adding::check_sums` meets its contract. Assumes nothing.
use native.Mathlib.Omega.{arith}
use Rattle.counts.proofs.AddLaws.{searching_none, searching_more, searching_bad, searching_over}
use Rattle.counts.proofs.adding.check_sums.Goals as goal

pub loop-c-init : goal.loop-c-init
loop-c-init c = searching_none _ _ c.requires

pub returns-then-both-gt65536 : goal.returns-then-both-gt65536
returns-then-both-gt65536 c =
    let b = c.both.ensures in
    searching_bad c.loop-c.invariant (omega arith) (omega (arith, b, c.if-both-gt65536.true))

pub loop-c-preserved : goal.loop-c-preserved
loop-c-preserved c =
    let b = c.both.ensures in
    searching_more c.loop-c.invariant (omega arith) (omega (arith, b, c.if-both-gt65536.false))

pub returns : goal.returns
returns c = searching_over c.loop-c.invariant (omega arith)
