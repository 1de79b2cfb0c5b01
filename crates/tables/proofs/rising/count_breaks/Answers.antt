-- `tables::rising::count_breaks` meets its contract. The invariant: those before `k` were looked at, and `to` is not passed. Assumes nothing.
use native.Mathlib.Omega.{arith}
use Rattle.tables.proofs.Breaks.{breaks_more, breaks_all}
use Rattle.tables.proofs.rising.count_breaks.Goals as goal

pub loop-k-init : goal.loop-k-init
loop-k-init c = c.requires

pub overflow_add-many : goal.overflow_add-many
overflow_add-many c =
    let a = c.args in
    let l = c.loop-k in
    let s = breaks_more a.most a.items.now l.many l.k a.to c.one_if-many.result (omega arith) c.one_if-many.ensures l.invariant in
    omega (arith, s.seen.few, s.seen.within, s.seen.small)

pub loop-k-preserved : goal.loop-k-preserved
loop-k-preserved c =
    let a = c.args in
    let l = c.loop-k in
    breaks_more a.most a.items.now l.many l.k a.to c.one_if-many.result (omega arith) c.one_if-many.ensures l.invariant

pub returns : goal.returns
returns c =
    let a = c.args in
    breaks_all a.most a.items.now c.loop-k.many c.loop-k.k a.to c.loop-k-test.false c.loop-k.invariant
