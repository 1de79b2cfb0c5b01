-- `resume::globals::passed` meets its contract. The invariant: the globals before q are below the line. Assumes nothing.
use native.Mathlib.Omega.{arith}
use Rattle.resume.proofs.GlobalTurns.{passing_none, passed_out, passing_more, passed_here, passed_all}
use Rattle.resume.proofs.globals.passed.Goals as goal
use Rattle.resume.proofs.globals.passed.Goals.{else-loop-q-test, then-loop-q-test+else-k-globals+else-q-p}

pub returns-then-globals-p : goal.returns-then-globals-p
returns-then-globals-p c = passed_out _ _ _ c.if-globals-p.true

pub loop-q-init : goal.loop-q-init
loop-q-init c = passing_none _ _ _ c.if-globals-p.false

pub offset_bounds-globals-q : goal.offset_bounds-globals-q
offset_bounds-globals-q c = omega (arith, c.loop-q.invariant.inside, c.loop-q-test.true)

pub bounds-globals-q : goal.bounds-globals-q
bounds-globals-q c = omega (arith, c.loop-q.invariant.inside, c.loop-q-test.true)

pub returns-then-k-globals : goal.returns-then-k-globals
returns-then-k-globals c = passed_here _ _ _ _ c.loop-q.invariant c.loop-q-test.true c.if-k-globals.true

pub loop-q-preserved : goal.loop-q-preserved
loop-q-preserved c = passing_more _ _ _ _ c.loop-q.invariant c.loop-q-test.true c.if-k-globals.false

pub overflow_add-result : goal.overflow_add-result
overflow_add-result c = omega (arith, c.if-globals-p.false)

pub returns : goal.returns
returns c =
    elim c.loop-q-test.branch [
      | else-loop-q-test w ↦ let l = c.loop-q.auto.q-end in absurd (omega (arith, w.loop-q-test.false))
      | then-loop-q-test+else-k-globals+else-q-p w ↦
          passed_all _ _ _ _ (passing_more _ _ _ _ c.loop-q.invariant w.loop-q-test.true w.if-k-globals.false) (omega arith)
    ]
