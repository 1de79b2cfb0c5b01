-- `tables::rising::never_fall` meets its contract. The invariant: the offsets before `c` were looked at. Assumes nothing.
use native.Mathlib.Omega.{arith}
use Rattle.tables.proofs.Breaks.{offsets_none, offsets_more, offsets_all}
use Rattle.tables.proofs.rising.never_fall.Goals as goal

pub loop-c-init : goal.loop-c-init
loop-c-init c = offsets_none c.args.cells c.args.offsets.now c.requires

pub loop-c-preserved : goal.loop-c-preserved
loop-c-preserved c =
    let a = c.args in
    let l = c.loop-c in
    offsets_more a.cells a.offsets.now l.all l.c (omega arith) l.invariant

pub returns : goal.returns
returns c =
    let a = c.args in
    offsets_all a.cells a.offsets.now c.loop-c.all c.loop-c.c c.loop-c-test.false c.loop-c.invariant
