-- `seek::bookmarks::seek_global` meets its contract. The invariant: what is left is dropped from the globals from p on. Assumes nothing.
use mathlib.Core.Path.{◌≡◌}
use native.Mathlib.Omega.{arith}
use Rattle.seek.proofs.SeekTurns.{global_seek, global_end, global_some, global_found, global_passed}
use Rattle.seek.proofs.bookmarks.seek_global.Goals as goal

pub loop-p-init : goal.loop-p-init
loop-p-init c =
    let a = c.args in
    global_seek a.lines a.count a.globals.now a.left c.requires

pub overflow_sub-row : goal.overflow_sub-row
overflow_sub-row c =
    let a = c.args in
    let l = c.loop-p in
    omega (arith, c.from-n.ensures, global_some a.lines a.count a.globals.now a.left l.left l.p l.invariant c.loop-p-test.true)

pub overflow_sub-row-in-loop-p : goal.overflow_sub-row-in-loop-p
overflow_sub-row-in-loop-p c =
    let a = c.args in
    let l = c.loop-p in
    omega (arith, c.from-n.ensures, global_some a.lines a.count a.globals.now a.left l.left l.p l.invariant c.loop-p-test.true)

pub returns-then-left-row : goal.returns-then-left-row
returns-then-left-row c =
    let a = c.args in
    let l = c.loop-p in
    global_found a.lines a.count a.globals.now a.left l.left l.p l.invariant c.loop-p-test.true (omega (arith, c.from-n.ensures))

pub loop-p-preserved : goal.loop-p-preserved
loop-p-preserved c =
    let a = c.args in
    let l = c.loop-p in
    rw c.from-n.ensures (global_passed a.lines a.count a.globals.now a.left l.left l.p l.invariant c.loop-p-test.true (omega (arith, c.from-n.ensures)))

pub returns : goal.returns
returns c =
    let a = c.args in
    let l = c.loop-p in
    let e : l.p ≡ a.count = omega (arith, l.auto.p-end, c.loop-p-test.false) in
    rw e at (global_end a.lines a.count a.globals.now a.left l.left l.p l.invariant c.loop-p-test.false)
