-- `seek::bookmarks::seek_line` meets its contract. The invariant: what is left is dropped from the lines from k on. Assumes nothing.
use mathlib.Core.Path.{◌≡◌}
use Prim.Native.Nat.{◌+◌}
use native.Mathlib.Omega.{arith}
use Rattle.seek.proofs.SeekTurns.{line_seek, line_last, global_in, line_ahead, line_below, line_before, line_passed}
use Rattle.seek.proofs.bookmarks.seek_line.Goals as goal
use Rattle.seek.proofs.bookmarks.seek_line.Goals.{else-loop-q-test, then-loop-q-test+else-left-g+else-q-p}

pub loop-q-init : goal.loop-q-init
loop-q-init c = let a = c.args in line_seek a.lines a.count a.globals.now a.p a.left c.requires

pub offset_bounds-globals-q : goal.offset_bounds-globals-q
offset_bounds-globals-q c =
    let a = c.args in
    let l = c.loop-q in
    omega (arith, global_in a.lines a.count a.globals.now a.p a.left l.left l.q l.k l.invariant c.loop-q-test.true)

pub bounds-globals-q : goal.bounds-globals-q
bounds-globals-q c =
    let a = c.args in
    let l = c.loop-q in
    global_in a.lines a.count a.globals.now a.p a.left l.left l.q l.k l.invariant c.loop-q-test.true

pub overflow_sub-g : goal.overflow_sub-g
overflow_sub-g c =
    let a = c.args in
    let l = c.loop-q in
    line_ahead a.lines a.count a.globals.now a.p a.left l.left l.q l.k l.invariant c.loop-q-test.true

pub overflow_add-result : goal.overflow_add-result
overflow_add-result c =
    let a = c.args in
    let l = c.loop-q in
    omega (arith, line_ahead a.lines a.count a.globals.now a.p a.left l.left l.q l.k l.invariant c.loop-q-test.true, c.if-left-g.true, line_below a.lines a.count a.globals.now a.p a.left l.left l.q l.k l.invariant c.loop-q-test.true, l.invariant.small)

pub returns-then-left-g : goal.returns-then-left-g
returns-then-left-g c =
    let a = c.args in
    let l = c.loop-q in
    line_before a.lines a.count a.globals.now a.p a.left l.left l.q l.k l.invariant c.loop-q-test.true c.if-left-g.true

pub overflow_sub-left : goal.overflow_sub-left
overflow_sub-left c =
    let a = c.args in
    let l = c.loop-q in
    line_ahead a.lines a.count a.globals.now a.p a.left l.left l.q l.k l.invariant c.loop-q-test.true

pub overflow_sub-left-in-loop-q : goal.overflow_sub-left-in-loop-q
overflow_sub-left-in-loop-q c = c.if-left-g.false

pub overflow_add-k : goal.overflow_add-k
overflow_add-k c =
    let a = c.args in
    let l = c.loop-q in
    omega (arith, line_below a.lines a.count a.globals.now a.p a.left l.left l.q l.k l.invariant c.loop-q-test.true)

pub loop-q-preserved : goal.loop-q-preserved
loop-q-preserved c =
    let a = c.args in
    let l = c.loop-q in
    line_passed a.lines a.count a.globals.now a.p a.left l.left l.q l.k l.invariant c.loop-q-test.true c.if-left-g.false

pub overflow_add-result-2 : goal.overflow_add-result-2
overflow_add-result-2 c =
    let a = c.args in
    let l = c.loop-q in
    omega (arith, l.invariant.small)

pub returns : goal.returns
returns c =
    let a = c.args in
    let l = c.loop-q in
    elim c.loop-q-test.branch [
      | else-loop-q-test w ↦ absurd (omega (arith, l.auto.q-end, w.loop-q-test))
      | then-loop-q-test+else-left-g+else-q-p w ↦
          let e : l.q ≡ a.p = omega arith in
          let s = line_passed a.lines a.count a.globals.now a.p a.left l.left l.q l.k l.invariant w.loop-q-test.true w.if-left-g.false in
          rw (w.left-is, w.k-is, e) (line_last a.lines a.count a.globals.now a.p a.left _ (a.p + 1) _ (rw e at s) (omega arith))
    ]
