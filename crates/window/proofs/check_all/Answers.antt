-- `window::check_all` meets its contract. Assumes nothing.
use Rattle.refusals.proofs.Answers.{at_exit}
use mathlib.Core.Path.{refl, sym, ◌∙◌}
use Rattle.grid.specs.Domain.{lines}
use Rattle.tables.specs.Tables.{beside}
use Rattle.window.proofs.Entry.{lines_refused, window_refused, tables_checked}
use Rattle.window.proofs.check_all.Goals as goal

pub returns-in_err-check_lines : goal.returns-in_err-check_lines
returns-in_err-check_lines c =
    let a = c.args in
    let ls = lines a.start_x.now a.start_y.now a.end_x.now a.end_y.now in
    let t = beside ls a.grid a.offsets.now a.items.now a.globals.now a.global_count in
    at_exit c.from_residual.ensures.1 (lines_refused ls a.grid t a.window _ (sym c.in_err-check_lines.ensures))

pub returns-in_err-check_window : goal.returns-in_err-check_window
returns-in_err-check_window c =
    let a = c.args in
    let ls = lines a.start_x.now a.start_y.now a.end_x.now a.end_y.now in
    let t = beside ls a.grid a.offsets.now a.items.now a.globals.now a.global_count in
    at_exit c.from_residual-in_err-check_window.ensures.1 (window_refused ls a.grid t a.window _ (sym c.in_ok-check_lines.ensures) (sym c.in_err-check_window.ensures))

pub returns : goal.returns
returns c =
    let a = c.args in
    let ls = lines a.start_x.now a.start_y.now a.end_x.now a.end_y.now in
    let t = beside ls a.grid a.offsets.now a.items.now a.globals.now a.global_count in
    c.check_tables.ensures ∙ tables_checked ls a.grid t a.window (sym c.in_ok-check_lines.ensures) (sym c.in_ok-check_window.ensures) refl
