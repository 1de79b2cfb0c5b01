-- `blocks_added::add_line` meets its contract: refused before the tables are asked, refused with them, or made. Assumes nothing.
use Rattle.std.proofs.lemmas.Result.{err_from_is_err_and}
use mathlib.Core.Path.{sym}
use lib.Seq.{length-take-le}
use Rattle.blocks_added.proofs.Kept.{kept_refused, list_refused, went, went_asks, list_made}
use Rattle.blocks_added.proofs.add_line.Goals as goal

pub returns-in_err-check_first : goal.returns-in_err-check_first
returns-in_err-check_first c =
    let a = c.args in
    let exit = err_from_is_err_and c.from_residual.result c.from_residual.ensures.1 in
    rw (exit.1, exit.2) (kept_refused a.mode a.grid a.line a.n a.offsets.now a.items.now a.globals.now a.global_count a.summary.now a.scratch.now _ (sym c.in_err-check_first.ensures))

pub returns-in_err-added : goal.returns-in_err-added
returns-in_err-added c =
    let a = c.args in
    let exit = err_from_is_err_and c.from_residual-in_err-added.result c.from_residual-in_err-added.ensures.1 in
    rw (exit.1, exit.2) (list_refused a.mode a.grid a.line a.n a.offsets.now a.items.now a.globals.now a.global_count a.summary.now a.scratch.now (sym c.in_ok-check_first.ensures) c.in_err-added.ensures)

pub slice_bounds-raise-end : goal.slice_bounds-raise-end
slice_bounds-raise-end c =
    let a = c.args in
    (went a.mode a.grid a.line a.n a.offsets.now a.items.now a.globals.now a.global_count a.summary.now a.scratch.now (sym c.in_ok-check_first.ensures) c.in_ok-added.ensures).within

pub slice_bounds-raise-end-2 : goal.slice_bounds-raise-end-2
slice_bounds-raise-end-2 c =
    let a = c.args in
    sym (length-take-le _ _ (went a.mode a.grid a.line a.n a.offsets.now a.items.now a.globals.now a.global_count a.summary.now a.scratch.now (sym c.in_ok-check_first.ensures) c.in_ok-added.ensures).within)

pub raise-requires : goal.raise-requires
raise-requires c =
    let a = c.args in
    went_asks a.mode a.grid a.line a.n a.offsets.now a.items.now a.globals.now a.global_count a.summary.now a.scratch.now (sym c.in_ok-check_first.ensures) (went a.mode a.grid a.line a.n a.offsets.now a.items.now a.globals.now a.global_count a.summary.now a.scratch.now (sym c.in_ok-check_first.ensures) c.in_ok-added.ensures)

pub returns : goal.returns
returns c =
    let a = c.args in
    list_made a.mode a.grid a.line a.n a.offsets.now a.items.now a.globals.now a.global_count a.summary.now a.scratch.now (sym c.in_ok-check_first.ensures) (went a.mode a.grid a.line a.n a.offsets.now a.items.now a.globals.now a.global_count a.summary.now a.scratch.now (sym c.in_ok-check_first.ensures) c.in_ok-added.ensures) c.in_ok-added.ensures c.list_line.auto.scratch c.raise.ensures _ c.block_count.ensures c.clear_from.ensures c.clear.ensures
