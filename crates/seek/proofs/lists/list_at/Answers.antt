-- `seek::lists::list_at` meets its contract. Assumes nothing.
use mathlib.Core.Path.{refl, sym, ◌∙◌}
use native.Mathlib.Omega.{arith}
use Rattle.grid.proofs.Shapes.{wide_product}
use Rattle.tables.specs.Tables.{tables}
use Rattle.seek.proofs.PlaceLaws.{part_refused, number_few, part_cell, global_from, global_to, part_global}
use Rattle.seek.proofs.lists.list_at.Goals as goal

pub returns-in-Err : goal.returns-in-Err
returns-in-Err c =
    let a = c.args in
    let t = tables a.grid a.lines a.offsets.now a.items.now a.globals.now a.global_count in
    part_refused _ _ _ _ (sym c.list_check-check.ensures ∙ c.in-Err.is)

pub overflow_mul-cell : goal.overflow_mul-cell
overflow_mul-cell c = record { fits = wide_product c.wide.result c.wide-in-Cell.result (omega arith) (omega arith) }

pub overflow_add-cell : goal.overflow_add-cell
overflow_add-cell c =
    let a = c.args in
    let t = tables a.grid a.lines a.offsets.now a.items.now a.globals.now a.global_count in
    omega (arith, number_few a.grid t refl refl a.place (sym c.list_check-check.ensures ∙ c.in_default.is) c.in-Cell.row c.in-Cell.col c.in-Cell.is c.wide.result c.wide-in-Cell.result c.wide-in-Cell-2.result c.wide.ensures c.wide-in-Cell.ensures c.wide-in-Cell-2.ensures)

pub offset_bounds-globals-p : goal.offset_bounds-globals-p
offset_bounds-globals-p c =
    let a = c.args in
    let t = tables a.grid a.lines a.offsets.now a.items.now a.globals.now a.global_count in
    omega (arith, global_from a.grid t a.place (sym c.list_check-check.ensures ∙ c.in_default.is) c.in-Global.p c.in-Global.is, global_to a.grid t a.place (sym c.list_check-check.ensures ∙ c.in_default.is) c.in-Global.p c.in-Global.is, c.well_formed.1.1.1.1.0)

pub slice_bounds-result-count-in-Global : goal.slice_bounds-result-count-in-Global
slice_bounds-result-count-in-Global c =
    let a = c.args in
    let t = tables a.grid a.lines a.offsets.now a.items.now a.globals.now a.global_count in
    global_from a.grid t a.place (sym c.list_check-check.ensures ∙ c.in_default.is) c.in-Global.p c.in-Global.is

pub slice_bounds-result-start-in-Global : goal.slice_bounds-result-start-in-Global
slice_bounds-result-start-in-Global c =
    let a = c.args in
    let t = tables a.grid a.lines a.offsets.now a.items.now a.globals.now a.global_count in
    global_from a.grid t a.place (sym c.list_check-check.ensures ∙ c.in_default.is) c.in-Global.p c.in-Global.is

pub slice_bounds-result-end-in-Global : goal.slice_bounds-result-end-in-Global
slice_bounds-result-end-in-Global c =
    let a = c.args in
    let t = tables a.grid a.lines a.offsets.now a.items.now a.globals.now a.global_count in
    global_to a.grid t a.place (sym c.list_check-check.ensures ∙ c.in_default.is) c.in-Global.p c.in-Global.is

pub returns-in-Cell : goal.returns-in-Cell
returns-in-Cell c =
    let a = c.args in
    let t = tables a.grid a.lines a.offsets.now a.items.now a.globals.now a.global_count in
    part_cell a.grid t refl refl a.place (sym c.list_check-check.ensures ∙ c.in_default.is) c.in-Cell.row c.in-Cell.col c.in-Cell.is c.wide.result c.wide-in-Cell.result c.wide-in-Cell-2.result c.wide.ensures c.wide-in-Cell.ensures c.wide-in-Cell-2.ensures c.list_of.ensures

pub returns-in-Global : goal.returns-in-Global
returns-in-Global c =
    let a = c.args in
    let t = tables a.grid a.lines a.offsets.now a.items.now a.globals.now a.global_count in
    part_global a.grid t a.place (sym c.list_check-check.ensures ∙ c.in_default.is) c.in-Global.p c.in-Global.is
