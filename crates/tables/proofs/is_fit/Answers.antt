-- `tables::is_fit` meets its contract. Assumes nothing.
use mathlib.Core.Path.{sym, ◌∙◌}
use native.Mathlib.Omega.{arith}
use Rattle.grid.proofs.Shapes.{wide_product}
use Rattle.tables.specs.Tables.{tables}
use Rattle.tables.proofs.Turns.{tables_short, tables_lists, tables_rest}
use Rattle.tables.proofs.is_fit.Goals as goal

pub overflow_mul-cells : goal.overflow_mul-cells
overflow_mul-cells c = record { fits = wide_product c.wide.result c.wide-2.result (omega arith) (omega arith) }

pub returns-then-offsets-cells : goal.returns-then-offsets-cells
returns-then-offsets-cells c =
    let a = c.args in
    let e = c.wide.ensures in
    let e₂ = c.wide-2.ensures in
    tables_short (tables a.grid a.lines a.offsets.now a.items.now a.globals.now a.global_count) _ (rw (e, e₂)) c.if-offsets-cells.true

pub returns-then-lists_fit : goal.returns-then-lists_fit
returns-then-lists_fit c =
    let a = c.args in
    let e = c.wide.ensures in
    let e₂ = c.wide-2.ensures in
    c.globals_fit.ensures ∙ tables_rest (tables a.grid a.lines a.offsets.now a.items.now a.globals.now a.global_count) _ (rw (e, e₂)) c.if-offsets-cells.false (sym c.lists_fit.ensures ∙ c.if-lists_fit.true)

pub returns : goal.returns
returns c =
    let a = c.args in
    let e = c.wide.ensures in
    let e₂ = c.wide-2.ensures in
    tables_lists (tables a.grid a.lines a.offsets.now a.items.now a.globals.now a.global_count) _ (rw (e, e₂)) c.if-offsets-cells.false (sym c.lists_fit.ensures ∙ c.if-lists_fit.false)
