-- `tables::check_tables` meets its contract. Assumes nothing.
use Rattle.refusals.proofs.Answers.{at_exit}
use mathlib.Core.Path.{sym, ◌∙◌}
use Rattle.tables.specs.Tables.{tables}
use Rattle.tables.proofs.Checking.{unfit_refused, standing_many, standing_grid, standing_tables}
use Rattle.tables.proofs.check_tables.Goals as goal

pub returns-in_err-check_count : goal.returns-in_err-check_count
returns-in_err-check_count c =
    let a = c.args in
    let t = tables a.grid a.lines a.offsets.now a.items.now a.globals.now a.global_count in
    at_exit c.from_residual.ensures.1 (standing_many a.grid t _ (sym c.in_err-check_count.ensures))

pub returns-in_err-check_grid : goal.returns-in_err-check_grid
returns-in_err-check_grid c =
    let a = c.args in
    let t = tables a.grid a.lines a.offsets.now a.items.now a.globals.now a.global_count in
    at_exit c.from_residual-in_err-check_grid.ensures.1 (standing_grid a.grid t (sym c.in_ok-check_count.ensures) _ (sym c.in_err-check_grid.ensures))

pub returns : goal.returns
returns c =
    let a = c.args in
    let t = tables a.grid a.lines a.offsets.now a.items.now a.globals.now a.global_count in
    unfit_refused t c.refuse_unless.ensures c.is_fit.ensures
    ∙ standing_tables a.grid t (sym c.in_ok-check_count.ensures) (sym c.in_ok-check_grid.ensures)
