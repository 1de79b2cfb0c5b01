-- `window::lines_in` meets its contract: each refusal in its order, then the lines. Assumes nothing.
use Rattle.std.proofs.lemmas.Result.{err_from_is_err_and}
use mathlib.Core.Path.{sym, ◌∙◌}
use native.Mathlib.Omega.{arith}
use borrow.Author.Tests.{not-false, not-true}
use Rattle.grid.specs.Domain.{lines}
use Rattle.tables.specs.Tables.{beside}
use Rattle.window.proofs.Entry.{refused_first, none_in, too_many, all_in, checked, out_of_order}
use Rattle.window.proofs.lines_in.Goals as goal

pub returns-in_err-check_all : goal.returns-in_err-check_all
returns-in_err-check_all c =
    let a = c.args in
    let ls = lines a.start_x.now a.start_y.now a.end_x.now a.end_y.now in
    let t = beside ls a.grid a.offsets.now a.items.now a.globals.now a.global_count in
    let exit = err_from_is_err_and c.from_residual.result c.from_residual.ensures.1 in rw (exit.1, exit.2) (refused_first ls a.grid t a.window a.out.now _ (sym c.in_err-check_all.ensures))

pub returns-then-not-is_in_order : goal.returns-then-not-is_in_order
returns-then-not-is_in_order c =
    let a = c.args in
    let ls = lines a.start_x.now a.start_y.now a.end_x.now a.end_y.now in
    let t = beside ls a.grid a.offsets.now a.items.now a.globals.now a.global_count in
    none_in ls a.grid t a.window a.out.now (sym c.in_ok-check_all.ensures) (out_of_order ls a.grid t a.window (sym c.is_in_order.ensures ∙ not-true _ c.if-not-is_in_order.true-raw)) _ c.clear.ensures

pub write_found-n-requires : goal.write_found-n-requires
write_found-n-requires c =
    let a = c.args in
    let ls = lines a.start_x.now a.start_y.now a.end_x.now a.end_y.now in
    let t = beside ls a.grid a.offsets.now a.items.now a.globals.now a.global_count in
    record { checked = checked ls a.grid t a.window (sym c.in_ok-check_all.ensures); ordered = sym c.is_in_order.ensures ∙ not-false _ c.if-not-is_in_order.false-raw }

pub returns-then-out-n : goal.returns-then-out-n
returns-then-out-n c =
    let a = c.args in
    let ls = lines a.start_x.now a.start_y.now a.end_x.now a.end_y.now in
    let t = beside ls a.grid a.offsets.now a.items.now a.globals.now a.global_count in
    too_many ls a.grid t a.window a.out.now (sym c.in_ok-check_all.ensures) _ _ c.write_found-n.ensures (omega arith) _ c.clear-then-out-n.ensures

pub returns : goal.returns
returns c =
    let a = c.args in
    let ls = lines a.start_x.now a.start_y.now a.end_x.now a.end_y.now in
    let t = beside ls a.grid a.offsets.now a.items.now a.globals.now a.global_count in
    all_in ls a.grid t a.window a.out.now (sym c.in_ok-check_all.ensures) _ _ c.write_found-n.ensures (omega arith) _ c.clear_from.ensures
