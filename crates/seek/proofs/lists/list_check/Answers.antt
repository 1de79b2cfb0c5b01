-- `seek::lists::list_check` meets its contract. Assumes nothing.
use Rattle.refusals.proofs.Answers.{at_exit}
use mathlib.Core.Path.{sym, ◌∙◌}
use Rattle.tables.specs.Tables.{tables}
use Rattle.seek.proofs.PlaceLaws.{list_tables, list_place}
use Rattle.seek.proofs.lists.list_check.Goals as goal

pub returns-in_err-check_tables : goal.returns-in_err-check_tables
returns-in_err-check_tables c =
    let a = c.args in
    let t = tables a.grid a.lines a.offsets.now a.items.now a.globals.now a.global_count in
    at_exit c.from_residual.ensures.1 (list_tables a.grid t a.place _ (sym c.in_err-check_tables.ensures))

pub returns : goal.returns
returns c =
    let a = c.args in
    let t = tables a.grid a.lines a.offsets.now a.items.now a.globals.now a.global_count in
    c.check_place.ensures ∙ list_place a.grid t a.place (sym c.in_ok-check_tables.ensures)
