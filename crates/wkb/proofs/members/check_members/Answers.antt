-- `wkb::members::check_members` meets its contract. The invariant: the members before `at` are right. Assumes nothing.
use mathlib.Core.Path.{◌≡◌, refl}
use Prim.Native.Nat.{◌+◌, ◌-◌}
use native.Mathlib.Omega.{arith}
use Rattle.std.proofs.lemmas.Result.{err_from_is_err_and}
use Rattle.wkb.proofs.Walks.{passed_none, passed_more, passed_fault, passed_over, passed_all}
use Rattle.wkb.proofs.members.check_members.Goals as goal

pub loop-init : goal.loop-init
loop-init c =
    let a = c.args in
    let z : a.m - 0 ≡ a.m = omega arith in
    rw z (passed_none a.bytes.now a.m (omega arith))

pub check_line-requires : goal.check_line-requires
check_line-requires c = c.loop.invariant.within

pub overflow_add-at : goal.overflow_add-at
overflow_add-at c = let l = c.in_ok-line.ensures in omega arith

pub overflow_mul-at : goal.overflow_mul-at
overflow_mul-at c = let l = c.in_ok-line.ensures in omega arith

pub overflow_add-at-in-loop : goal.overflow_add-at-in-loop
overflow_add-at-in-loop c = let l = c.in_ok-line.ensures in omega arith

pub overflow_add-points : goal.overflow_add-points
overflow_add-points c = let l = c.in_ok-line.ensures in omega arith

pub loop-preserved : goal.loop-preserved
loop-preserved c =
    let e : c.args.m - (c.loop.counter + 1) ≡ c.args.m - c.loop.counter - 1 = omega arith in
    rw e (passed_more c.loop.invariant (omega arith) c.in_ok-line.ensures)

pub returns-in_err-line : goal.returns-in_err-line
returns-in_err-line c =
    let p = err_from_is_err_and c.from_residual.result c.from_residual.ensures.1 in
    rw (p.1, p.2) (passed_fault c.loop.invariant _ (omega arith) c.in_err-line.ensures)

pub returns-then-at-bytes : goal.returns-then-at-bytes
returns-then-at-bytes c = passed_over c.loop.invariant (omega arith) c.if-at-bytes.true

pub returns : goal.returns
returns c = (refl, passed_all c.loop.invariant (omega arith) c.if-at-bytes.false)
