-- `lent::begin` meets its contract: each refusal in its order, then the lists by line. Assumes nothing.
use Rattle.std.proofs.lemmas.Result.{err_from_is_err_and}
use mathlib.Core.Path.{sym}
use Rattle.tables.specs.Tables.{tables}
use Rattle.lent.proofs.Beginning.{begin_lent, begin_lines, begin_tables, begin_done}
use Rattle.lent.proofs.begin.Goals as goal

pub returns-in_err-check_lent : goal.returns-in_err-check_lent
returns-in_err-check_lent c =
    let a = c.args in
    let t = tables a.grid a.lines a.offsets.now a.items.now a.globals.now a.global_count in
    let p = err_from_is_err_and c.from_residual.result c.from_residual.ensures.1 in
    rw (p.1, p.2) (begin_lent a.checked a.grid t a.first a.second a.starts.now a.listing.now a.counts.now _ (sym c.in_err-check_lent.ensures))

pub returns-in_err-checked : goal.returns-in_err-checked
returns-in_err-checked c =
    let a = c.args in
    let t = tables a.grid a.lines a.offsets.now a.items.now a.globals.now a.global_count in
    let p = err_from_is_err_and c.from_residual-in_err-checked.result c.from_residual-in_err-checked.ensures.1 in
    rw (p.1, p.2) (begin_lines a.checked a.grid t a.first a.second a.starts.now a.listing.now a.counts.now (sym c.in_ok-check_lent.ensures) _ c.in_err-checked.was)

pub returns-in_err-lists_by_line : goal.returns-in_err-lists_by_line
returns-in_err-lists_by_line c =
    let a = c.args in
    let t = tables a.grid a.lines a.offsets.now a.items.now a.globals.now a.global_count in
    let p = err_from_is_err_and c.from_residual-in_err-lists_by_line.result c.from_residual-in_err-lists_by_line.ensures.1 in
    rw (p.1, p.2) (begin_tables a.checked a.grid t a.first a.second a.starts.now a.listing.now a.counts.now (sym c.in_ok-check_lent.ensures) c.in_ok-checked.was c.lists_by_line.ensures _ c.in_err-lists_by_line.was)

pub returns : goal.returns
returns c =
    let a = c.args in
    let t = tables a.grid a.lines a.offsets.now a.items.now a.globals.now a.global_count in
    begin_done a.checked a.grid t a.first a.second a.starts.now a.listing.now a.counts.now (sym c.in_ok-check_lent.ensures) c.in_ok-checked.was c.lists_by_line.ensures c.in_ok-lists_by_line.was c.clear.ensures
