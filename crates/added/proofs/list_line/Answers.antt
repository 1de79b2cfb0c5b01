-- `added::list_line` meets its contract. Assumes nothing.
use Rattle.std.proofs.lemmas.Result.{err_from_is_err_and}
use mathlib.Core.Path.{sym}
use Rattle.tables.specs.Tables.{tables}
use Rattle.added.proofs.Asking.{asked}
use Rattle.added.proofs.Promise.{list_asked, list_edge, list_placed}
use Rattle.added.proofs.list_line.Goals as goal

pub returns-in_err-check_asked : goal.returns-in_err-check_asked
returns-in_err-check_asked c =
    let a = c.args in
    let t = tables a.grid a.n a.offsets.now a.items.now a.globals.now a.global_count in
    let exit = err_from_is_err_and c.from_residual.result c.from_residual.ensures.1 in
    rw (exit.1, exit.2) (list_asked a.mode a.grid a.line t a.scratch.now (sym c.in_err-check_asked.ensures))

pub returns-in_err-check_edge : goal.returns-in_err-check_edge
returns-in_err-check_edge c =
    let a = c.args in
    let t = tables a.grid a.n a.offsets.now a.items.now a.globals.now a.global_count in
    let exit = err_from_is_err_and c.from_residual-in_err-check_edge.result c.from_residual-in_err-check_edge.ensures.1 in
    rw (exit.1, exit.2) (list_edge a.mode a.grid a.line t a.scratch.now (sym c.in_ok-check_asked.ensures) (sym c.in_err-check_edge.ensures))

pub place-requires : goal.place-requires
place-requires c = asked (sym c.in_ok-check_asked.ensures)

pub returns : goal.returns
returns c =
    let a = c.args in
    let t = tables a.grid a.n a.offsets.now a.items.now a.globals.now a.global_count in
    list_placed a.mode a.grid a.line t a.scratch.now (sym c.in_ok-check_asked.ensures) (sym c.in_ok-check_edge.ensures) c.place.ensures
