-- `added::checks::check_asked` meets its contract. Assumes nothing.
use Rattle.refusals.proofs.Answers.{at_exit}
use mathlib.Core.Path.{sym, ◌∙◌}
use Rattle.tables.specs.Tables.{tables}
use Rattle.tables.proofs.Checking.{unfit_refused}
use Rattle.added.proofs.Asking.{ask_scratch, ask_many, ask_line, ask_grid, ask_tables, below_is, cells_are}
use Rattle.added.proofs.checks.check_asked.Goals as goal

pub returns-in_err-check_scratch : goal.returns-in_err-check_scratch
returns-in_err-check_scratch c =
    let a = c.args in
    let t = tables a.grid a.n a.offsets.now a.items.now a.globals.now a.global_count in
    at_exit c.from_residual.ensures.1 (ask_scratch a.grid a.line t a.scratch _ (sym c.in_err-check_scratch.ensures))

pub returns-in_err-refuse_unless : goal.returns-in_err-refuse_unless
returns-in_err-refuse_unless c =
    let a = c.args in
    let t = tables a.grid a.n a.offsets.now a.items.now a.globals.now a.global_count in
    at_exit c.from_residual-in_err-refuse_unless.ensures.1 (ask_many a.grid a.line t a.scratch (sym c.in_ok-check_scratch.ensures) _ (sym (below_is _ c.in_err-refuse_unless.ensures)))

pub returns-in_err-check_segment : goal.returns-in_err-check_segment
returns-in_err-check_segment c =
    let a = c.args in
    let t = tables a.grid a.n a.offsets.now a.items.now a.globals.now a.global_count in
    at_exit c.from_residual-in_err-check_segment.ensures.1 (ask_line a.grid a.line t a.scratch (sym c.in_ok-check_scratch.ensures) (sym (below_is _ c.in_ok-refuse_unless.ensures)) _ (sym c.in_err-check_segment.ensures))

pub returns-in_err-refuse_unless-2 : goal.returns-in_err-refuse_unless-2
returns-in_err-refuse_unless-2 c =
    let a = c.args in
    let t = tables a.grid a.n a.offsets.now a.items.now a.globals.now a.global_count in
    at_exit c.from_residual-in_err-refuse_unless-2.ensures.1 (ask_grid a.grid a.line t a.scratch (sym c.in_ok-check_scratch.ensures) (sym (below_is _ c.in_ok-refuse_unless.ensures)) (sym c.in_ok-check_segment.ensures) _ (sym (cells_are a.grid c.in_err-refuse_unless-2.ensures c.has_cells.ensures)))

pub returns : goal.returns
returns c =
    let a = c.args in
    let t = tables a.grid a.n a.offsets.now a.items.now a.globals.now a.global_count in
    unfit_refused t c.refuse_unless-3.ensures c.is_fit.ensures
    ∙ ask_tables a.grid a.line t a.scratch (sym c.in_ok-check_scratch.ensures) (sym (below_is _ c.in_ok-refuse_unless.ensures)) (sym c.in_ok-check_segment.ensures) (sym (cells_are a.grid c.in_ok-refuse_unless-2.ensures c.has_cells.ensures))
