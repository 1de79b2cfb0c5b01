-- `visit::cursor::settle_cell` meets its contract. The invariant: the same is left as at the start. Assumes nothing.
use mathlib.Core.Path.{refl}
use Prim.Native.Nat.{◌+◌}
use native.Mathlib.Omega.{arith}
use Rattle.visit.proofs.CellTurns.{settling_none, settled_past, from_to, settled_here, settled_row, settling_more}
use Rattle.visit.proofs.cursor.settle_cell.Goals as goal

pub loop-c-init : goal.loop-c-init
loop-c-init c =
    let a = c.args in
    settling_none a.cells a.offsets.now a.items.now a.cell a.i a.j c.requires

pub overflow_cast-from : goal.overflow_cast-from
overflow_cast-from c = let l = c.loop-c in omega (arith, l.invariant.table.within l.c (omega (arith, c.loop-c-test.true)), c.well_formed.1.1.0)

pub overflow_cast-to : goal.overflow_cast-to
overflow_cast-to c = let l = c.loop-c in omega (arith, l.invariant.table.within (l.c + 1) (omega (arith, c.loop-c-test.true)), c.well_formed.1.1.0)

pub overflow_sub-len : goal.overflow_sub-len
overflow_sub-len c =
    let a = c.args in
    let l = c.loop-c in
    from_to a.cells a.offsets.now a.items.now a.cell a.i a.j l.c l.i l.j l.invariant c.loop-c-test.true _ _ refl refl

pub returns-then-j-len : goal.returns-then-j-len
returns-then-j-len c =
    let a = c.args in
    let l = c.loop-c in
    settled_here a.cells a.offsets.now a.items.now a.cell a.i a.j l.c l.i l.j l.invariant c.loop-c-test.true _ _ refl refl c.if-j-len.true

pub returns-then-after-len : goal.returns-then-after-len
returns-then-after-len c =
    let a = c.args in
    let l = c.loop-c in
    settled_row a.cells a.offsets.now a.items.now a.cell a.i a.j l.c l.i l.j l.invariant c.loop-c-test.true _ _ refl refl c.if-j-len.false c.if-after-len.true

pub loop-c-preserved : goal.loop-c-preserved
loop-c-preserved c =
    let a = c.args in
    let l = c.loop-c in
    settling_more a.cells a.offsets.now a.items.now a.cell a.i a.j l.c l.i l.j l.invariant c.loop-c-test.true _ _ refl refl c.if-j-len.false c.if-after-len.false

pub returns : goal.returns
returns c =
    let a = c.args in
    let l = c.loop-c in
    settled_past a.cells a.offsets.now a.items.now a.cell a.i a.j l.c l.i l.j l.invariant c.loop-c-test.false
