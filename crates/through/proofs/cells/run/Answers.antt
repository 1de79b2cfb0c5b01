-- `through::cells::run` meets its contract. Assumes nothing.
use mathlib.Core.Path.{sym, ◌∙◌}
use native.Mathlib.Omega.{arith}
use Rattle.grid.specs.Domain.{lines}
use Rattle.through.proofs.RunLaws.{none_beyond, none_refused, run_gone, lent_fine}
use Rattle.through.proofs.cells.run.Goals as goal

pub returns-then-most-cell : goal.returns-then-most-cell
returns-then-most-cell c =
    let a = c.args in
    let ls = lines a.start_x.now a.start_y.now a.end_x.now a.end_y.now in
    none_beyond ls a.cols a.reach a.offsets.now a.items.now a.cell a.i a.j a.first.now a.second.now _ c.least-most.ensures c.if-most-cell.true

pub returns-in-Err : goal.returns-in-Err
returns-in-Err c =
    let a = c.args in
    let ls = lines a.start_x.now a.start_y.now a.end_x.now a.end_y.now in
    none_refused ls a.cols a.reach a.offsets.now a.items.now a.cell a.i a.j a.first.now a.second.now _ (sym c.check_lent-check.ensures ∙ c.in-Err.is)

pub go-requires : goal.go-requires
go-requires c =
    let a = c.args in
    let ls = lines a.start_x.now a.start_y.now a.end_x.now a.end_y.now in
    lent_fine ls a.first.now a.second.now (sym c.check_lent-check.ensures ∙ c.in_default.is) _ (omega (arith, c.least-most.ensures))

pub returns : goal.returns
returns c =
    let a = c.args in
    let ls = lines a.start_x.now a.start_y.now a.end_x.now a.end_y.now in
    run_gone ls a.cols a.reach a.offsets.now a.items.now a.cell a.i a.j a.first.now a.second.now (sym c.check_lent-check.ensures ∙ c.in_default.is) _ c.least-most.ensures c.if-most-cell.false _ _ _ c.go.ensures
