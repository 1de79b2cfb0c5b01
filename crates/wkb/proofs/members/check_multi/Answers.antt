-- `wkb::members::check_multi` meets its contract: the head, the number of members, and what the look at the members found. Assumes nothing.
use native.Mathlib.Omega.{arith}
use Rattle.std.proofs.lemmas.Result.{err_from_is_err_and}
use Rattle.wkb.proofs.Fields.{counted_at}
use Rattle.wkb.proofs.MultiLineStrings.{multi_head_lem, multi_cut, to_members, looked_members}
use Rattle.wkb.proofs.members.check_multi.Goals as goal

pub returns-in_err-order : goal.returns-in_err-order
returns-in_err-order c =
    let p = err_from_is_err_and c.from_residual.result c.from_residual.ensures.1 in
    rw (p.1, p.2) (multi_head_lem c.args.bytes.now _ c.in_err-order.ensures)

pub returns-then-len-lt9 : goal.returns-then-len-lt9
returns-then-len-lt9 c = multi_cut c.args.bytes.now c.in_ok-order.ensures.fine (omega arith)

pub returns : goal.returns
returns c =
    let bs = c.args.bytes.now in
    let h = c.in_ok-order.ensures in
    let n = counted_at _ 0 bs h.order c.number_at_4.ensures.0 in
    looked_members bs _ c.check_members.result c.check_members.ensures n (to_members bs h.fine (omega arith))
