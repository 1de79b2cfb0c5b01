-- `added::add_line` meets its contract. Assumes nothing.
use Rattle.std.proofs.lemmas.Result.{err_from_is_err_and}
use Rattle.added.proofs.Promise.{cleared_refused, cleared_made}
use Rattle.added.proofs.add_line.Goals as goal

pub returns-in_err-added : goal.returns-in_err-added
returns-in_err-added c =
    let exit = err_from_is_err_and c.from_residual.result c.from_residual.ensures.1 in
    rw (exit.1, exit.2) (cleared_refused c.in_err-added.ensures)

pub returns : goal.returns
returns c = cleared_made c.in_ok-added.ensures c.list_line.auto.scratch c.clear.ensures
