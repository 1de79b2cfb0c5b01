-- `fill::count_lent` meets its contract. Assumes nothing.
use Rattle.std.proofs.lemmas.Result.{err_from_is_err_and}
use mathlib.Core.Path.{sym, ◌∙◌}
use Rattle.fill.proofs.Entries.{lent_refused, lent_asks, lent_counted}
use Rattle.fill.proofs.count_lent.Goals as goal

pub returns-in_err-check : goal.returns-in_err-check
returns-in_err-check c =
    let p = err_from_is_err_and c.from_residual.result c.from_residual.ensures.1 in
    rw (p.1, p.2) (lent_refused _ (sym c.in_err-check.ensures))

pub count_lines-requires : goal.count_lines-requires
count_lines-requires c = lent_asks c.args.offsets.now (sym c.in_ok-check.ensures) c.clear.ensures c.clear.auto.s

pub returns : goal.returns
returns c =
    let k = c.count_lines in
    lent_counted _ (sym c.in_ok-check.ensures) k.ensures (k.auto.offsets ∙ c.clear.auto.s) k.auto.scratch
