-- `seek::bookmarks::seek_cell` meets its contract. The invariant: what is left is dropped from the cells from `cell` on. Assumes nothing.
use mathlib.Core.Path.{◌≡◌}
use native.Mathlib.Omega.{arith}
use Rattle.seek.proofs.SeekTurns.{cell_seek, cell_end, cell_up, cell_found, cell_passed}
use Rattle.seek.proofs.bookmarks.seek_cell.Goals as goal

pub loop-cell-init : goal.loop-cell-init
loop-cell-init c =
    let a = c.args in
    cell_seek a.cells a.offsets.now a.items.now a.left c.requires

pub overflow_sub-offsets : goal.overflow_sub-offsets
overflow_sub-offsets c =
    let a = c.args in
    let l = c.loop-cell in
    cell_up a.cells a.offsets.now a.items.now a.left l.left l.cell l.invariant c.loop-cell-test.true

pub returns-then-left-t : goal.returns-then-left-t
returns-then-left-t c =
    let a = c.args in
    let l = c.loop-cell in
    cell_found a.cells a.offsets.now a.items.now a.left l.left l.cell l.invariant c.loop-cell-test.true c.triangle-t.result c.triangle-t.ensures c.if-left-t.true

pub loop-cell-preserved : goal.loop-cell-preserved
loop-cell-preserved c =
    let a = c.args in
    let l = c.loop-cell in
    cell_passed a.cells a.offsets.now a.items.now a.left l.left l.cell l.invariant c.loop-cell-test.true c.triangle-t.result c.triangle-t.ensures c.if-left-t.false

pub returns : goal.returns
returns c =
    let a = c.args in
    let l = c.loop-cell in
    let e : l.cell ≡ a.cells = omega (arith, l.auto.cell-end, c.loop-cell-test.false) in
    rw e at (cell_end a.cells a.offsets.now a.items.now a.left l.left l.cell l.invariant c.loop-cell-test.false)
