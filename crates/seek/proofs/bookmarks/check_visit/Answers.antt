-- `seek::bookmarks::check_visit` meets its contract. Assumes nothing.
use Rattle.refusals.proofs.Answers.{at_exit}
use mathlib.Core.Path.{refl, sym, ◌∙◌}
use Rattle.grid.specs.Domain.{lines}
use Rattle.tables.specs.Tables.{beside}
use Rattle.seek.proofs.FindLaws.{visit_lines, visit_tables}
use Rattle.seek.proofs.bookmarks.check_visit.Goals as goal

pub returns-in_err-check_lines : goal.returns-in_err-check_lines
returns-in_err-check_lines c =
    let a = c.args in
    let ls = lines a.start_x.now a.start_y.now a.end_x.now a.end_y.now in
    let t = beside ls a.grid a.offsets.now a.items.now a.globals.now a.global_count in
    at_exit c.from_residual.ensures.1 (visit_lines ls a.grid t _ (sym c.in_err-check_lines.ensures))

pub returns : goal.returns
returns c =
    let a = c.args in
    let ls = lines a.start_x.now a.start_y.now a.end_x.now a.end_y.now in
    let t = beside ls a.grid a.offsets.now a.items.now a.globals.now a.global_count in
    c.check_tables.ensures ∙ visit_tables ls a.grid t (sym c.in_ok-check_lines.ensures) refl
