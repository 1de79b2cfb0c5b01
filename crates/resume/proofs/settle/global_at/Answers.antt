-- `resume::settle::global_at` meets its contract. The invariant: the same is left as at the start. Assumes nothing.
use native.Mathlib.Omega.{arith}
use lib.ListN.{length}
use Rattle.visit.proofs.GlobalTurns.{gliding_none, stop_asks, glided_here, glided_past, gliding_pass, gliding_next, stop_fits, global_less}
use Rattle.resume.proofs.settle.global_at.Goals as goal

pub loop-p-init : goal.loop-p-init
loop-p-init c = gliding_none _ _ _ _ _ _ c.requires

pub stop_at-stop-requires : goal.stop_at-stop-requires
stop_at-stop-requires c =
    let a = c.args in
    let l = c.loop-p in
    stop_asks a.lines (length a.globals.now) a.globals.now a.p a.q a.k l.p l.q l.k l.invariant c.loop-p-test.true

pub returns-then-k-stop : goal.returns-then-k-stop
returns-then-k-stop c =
    let a = c.args in
    let l = c.loop-p in
    glided_here a.lines (length a.globals.now) a.globals.now a.p a.q a.k l.p l.q l.k l.invariant c.loop-p-test.true c.stop_at-stop.result c.stop_at-stop.ensures c.if-k-stop.true

pub overflow_add-k : goal.overflow_add-k
overflow_add-k c =
    let a = c.args in
    let l = c.loop-p in
    record { fits = stop_fits a.lines (length a.globals.now) a.globals.now a.p a.q a.k l.p l.q l.k l.invariant c.loop-p-test.true c.stop_at-stop.result c.stop_at-stop.ensures c.if-q-p.true (omega arith) }

pub loop-p-preserved-then-q-p : goal.loop-p-preserved-then-q-p
loop-p-preserved-then-q-p c =
    let a = c.args in
    let l = c.loop-p in
    gliding_pass a.lines (length a.globals.now) a.globals.now a.p a.q a.k l.p l.q l.k l.invariant c.loop-p-test.true c.stop_at-stop.result c.stop_at-stop.ensures c.if-k-stop.false c.if-q-p.true

pub loop-p-smaller : goal.loop-p-smaller
loop-p-smaller c =
    let a = c.args in
    let l = c.loop-p in
    global_less (length a.globals.now) l.p l.q c.loop-p-test.true c.if-q-p.false l.invariant.fits.q_small

pub loop-p-preserved : goal.loop-p-preserved
loop-p-preserved c =
    let a = c.args in
    let l = c.loop-p in
    gliding_next a.lines (length a.globals.now) a.globals.now a.p a.q a.k l.p l.q l.k l.invariant c.loop-p-test.true c.stop_at-stop.result c.stop_at-stop.ensures c.if-k-stop.false c.if-q-p.false

pub returns : goal.returns
returns c =
    let a = c.args in
    let l = c.loop-p in
    glided_past a.lines (length a.globals.now) a.globals.now a.p a.q a.k l.p l.q l.k l.invariant c.loop-p-test.false
