-- `counts::adding::add` meets its contract. Assumes nothing.
use Rattle.std.proofs.lemmas.Result.{err_from_is_err_and}
use mathlib.Core.Path.{sym}
use Rattle.counts.proofs.AddLaws.{add_unequal, add_above, add_done}
use Rattle.counts.proofs.adding.add.Goals as goal

pub returns-then-from-into : goal.returns-then-from-into
returns-then-from-into c = add_unequal _ _ c.if-from-into.true

pub returns-in_err-check_sums : goal.returns-in_err-check_sums
returns-in_err-check_sums c =
    let p = err_from_is_err_and c.from_residual.result c.from_residual.ensures.1 in
    rw (p.1, p.2) (add_above _ _ c.if-from-into.false _ (sym c.in_err-check_sums.ensures))

pub add_all-requires : goal.add_all-requires
add_all-requires c = (c.if-from-into.false, sym c.in_ok-check_sums.ensures)

pub returns : goal.returns
returns c = add_done _ _ _ c.if-from-into.false (sym c.in_ok-check_sums.ensures) c.add_all.ensures
