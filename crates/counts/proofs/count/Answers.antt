-- `counts::count` meets its contract. Assumes nothing.
use Rattle.std.proofs.lemmas.Result.{err_from_is_err_and}
use Rattle.counts.proofs.Entries.{sum_asks, count_made, count_refused}
use Rattle.counts.proofs.count.Goals as goal

pub sum_of-listed-requires : goal.sum_of-listed-requires
sum_of-listed-requires c =
    let k = c.count_on in
    sum_asks k.ensures _ c.in_ok-globals.was _ c.cell_count.ensures

pub returns : goal.returns
returns c =
    let k = c.count_on in
    count_made k.ensures _ c.in_ok-globals.was _ _ c.cell_count.ensures c.sum_of-listed.ensures

pub returns-in_err-globals : goal.returns-in_err-globals
returns-in_err-globals c =
    let p = err_from_is_err_and c.from_residual.result c.from_residual.ensures.1 in
    rw (p.1, p.2) (count_refused c.count_on.ensures _ c.in_err-globals.was)
