-- `tables::rising::count_begins` meets its contract. The invariant: the lists before that of `c` were looked at, and `to` is not passed. Assumes nothing.
use native.Mathlib.Numerals.{add-one}
use native.Mathlib.Omega.{arith}
use Rattle.tables.proofs.Breaks.{begin_inside, begins_more, begins_all}
use Rattle.tables.proofs.rising.count_begins.Goals as goal

pub loop-c-init : goal.loop-c-init
loop-c-init c = c.requires

pub begins-one-requires : goal.begins-one-requires
begins-one-requires c =
    let a = c.args in
    let l = c.loop-c in
    rw add-one (begin_inside a.cells a.offsets.now a.items.now l.invariant.seen.asks.laid l.invariant.seen.asks.some l.c (omega arith))

pub loop-c-preserved : goal.loop-c-preserved
loop-c-preserved c =
    let a = c.args in
    let l = c.loop-c in
    begins_more a.most a.cells a.offsets.now a.items.now l.many l.c a.to c.begins-one.result (omega arith) c.begins-one.ensures l.invariant

pub returns : goal.returns
returns c =
    let a = c.args in
    begins_all a.most a.cells a.offsets.now a.items.now c.loop-c.many c.loop-c.c a.to c.loop-c-test.false c.loop-c.invariant
