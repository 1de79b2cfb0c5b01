-- `blocks::make` meets its contract: each refusal in its order, then the summary. Assumes nothing.
use Rattle.std.proofs.lemmas.Result.{err_from_is_err_and}
use mathlib.Core.Path.{refl, sym}
use Rattle.tables.specs.Tables.{tables}
use Rattle.blocks.proofs.Entry.{make_refused, make_asks, make_done}
use Rattle.blocks.proofs.make.Goals as goal

pub returns-in_err-check_make : goal.returns-in_err-check_make
returns-in_err-check_make c =
    let a = c.args in
    let t = tables a.grid a.lines a.offsets.now a.items.now a.globals.now a.global_count in
    let exit = err_from_is_err_and c.from_residual.result c.from_residual.ensures.1 in rw (exit.1, exit.2) (make_refused a.grid t a.summary.now _ (sym c.in_err-check_make.ensures))

pub add_rows-requires : goal.add_rows-requires
add_rows-requires c =
    let both = let a = c.args in
    let t = tables a.grid a.lines a.offsets.now a.items.now a.globals.now a.global_count in
    make_asks a.grid t a.summary.now (sym c.in_ok-check_make.ensures) refl refl _ c.clear.ensures in
    record { fills = both.0; told = both.1 }

pub returns : goal.returns
returns c =
    let a = c.args in
    let t = tables a.grid a.lines a.offsets.now a.items.now a.globals.now a.global_count in
    make_done a.grid t a.summary.now (sym c.in_ok-check_make.ensures) _ c.clear.ensures _ c.add_rows.ensures _ c.block_count.ensures
