-- `resume::nexts::next` meets its contract. Assumes nothing.
use Rattle.std.proofs.lemmas.Result.{err_from_is_err_and}
use mathlib.Core.Path.{sym}
use Rattle.grid.specs.Domain.{lines}
use Rattle.tables.specs.Tables.{beside}
use Rattle.resume.proofs.NextLaws.{next_refused, next_clears, next_fine, next_went}
use Rattle.resume.proofs.nexts.next.Goals as goal

pub returns-in_err-check_lent : goal.returns-in_err-check_lent
returns-in_err-check_lent c =
    let a = c.args in
    let ls = lines a.start_x.now a.start_y.now a.end_x.now a.end_y.now in
    let t = beside ls a.grid a.offsets.now a.items.now a.globals.now a.global_count in
    let e = sym c.in_err-check_lent.ensures in
    let p = err_from_is_err_and c.from_residual.result c.from_residual.ensures.1 in
    rw (p.1, p.2) (next_refused ls t a.cursor a.first.now a.second.now _ e (next_clears ls a.first.now a.second.now _ e))

pub go-requires : goal.go-requires
go-requires c =
    let a = c.args in
    let ls = lines a.start_x.now a.start_y.now a.end_x.now a.end_y.now in
    let t = beside ls a.grid a.offsets.now a.items.now a.globals.now a.global_count in
    next_fine ls a.first.now a.second.now (sym c.in_ok-check_lent.ensures)

pub returns : goal.returns
returns c =
    let a = c.args in
    let ls = lines a.start_x.now a.start_y.now a.end_x.now a.end_y.now in
    let t = beside ls a.grid a.offsets.now a.items.now a.globals.now a.global_count in
    next_went ls t a.cursor a.first.now a.second.now (sym c.in_ok-check_lent.ensures) _ _ _ c.go.ensures
