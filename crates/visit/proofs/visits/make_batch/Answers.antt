-- `visit::visits::make_batch` meets its contract. Assumes nothing.
use Rattle.std.specs.Prelude.{Ok}
use Rattle.std.proofs.lemmas.Result.{err_from_is_err_and}
use mathlib.Core.Path.{◌≡◌, refl, ◌∙◌}
use Rattle.grid.specs.Domain.{lines}
use Rattle.tables.specs.Tables.{beside}
use Rattle.seek.specs.Cursors.{CursorIs}
use Rattle.seek.proofs.Passed.{rows_cols}
use Rattle.visit.specs.Entries.{outputs_check}
use Rattle.visit.specs.Inside.{RunAsks}
use Rattle.visit.proofs.RunWhole.{cells_asks, globals_asks, run_small, run_is}
use Rattle.visit.proofs.EntryLaws.{outputs_alike, outputs_unlike, batch_unlike, batch_refused, batch_done, run_asks, bookmark_fits}
use Rattle.visit.proofs.visits.make_batch.Goals as goal

pub returns-then-first-second : goal.returns-then-first-second
returns-then-first-second c =
    let a = c.args in
    let ls = lines a.start_x.now a.start_y.now a.end_x.now a.end_y.now in
    let t = beside ls a.grid a.offsets.now a.items.now a.globals.now a.global_count in
    batch_unlike ls a.grid t a.bookmark a.first.now a.second.now a.places.now _ (outputs_unlike a.first.now a.second.now c.if-first-second.true)

pub overflow_mul-cells : goal.overflow_mul-cells
overflow_mul-cells c =
    let same : let a = c.args in outputs_check a.first.now a.second.now ≡ (Ok tt) = let a = c.args in outputs_alike a.first.now a.second.now c.if-first-second.false in
    let found : let a = c.args in let ls = lines a.start_x.now a.start_y.now a.end_x.now a.end_y.now in CursorIs ls a.grid (beside ls a.grid a.offsets.now a.items.now a.globals.now a.global_count) a.bookmark c.in_ok-cursor.cursor =
    let a = c.args in
    let ls = lines a.start_x.now a.start_y.now a.end_x.now a.end_y.now in
    let t = beside ls a.grid a.offsets.now a.items.now a.globals.now a.global_count in
    c.in_ok-cursor.ensures in
    let asks : let a = c.args in let ls = lines a.start_x.now a.start_y.now a.end_x.now a.end_y.now in RunAsks ls a.grid (beside ls a.grid a.offsets.now a.items.now a.globals.now a.global_count) c.in_ok-cursor.cursor a.first.now a.second.now =
    let a = c.args in
    let ls = lines a.start_x.now a.start_y.now a.end_x.now a.end_y.now in
    run_asks ls a.grid a.offsets.now a.items.now a.globals.now a.global_count a.bookmark c.in_ok-cursor.cursor found a.first.now a.second.now a.places.now same in
    let a = c.args in
    let ls = lines a.start_x.now a.start_y.now a.end_x.now a.end_y.now in
    record { fits = rows_cols ls a.grid a.offsets.now a.items.now a.globals.now a.global_count asks.ready.fine _ _ refl refl }

pub run_cells-listed-requires : goal.run_cells-listed-requires
run_cells-listed-requires c =
    let same : let a = c.args in outputs_check a.first.now a.second.now ≡ (Ok tt) = let a = c.args in outputs_alike a.first.now a.second.now c.if-first-second.false in
    let found : let a = c.args in let ls = lines a.start_x.now a.start_y.now a.end_x.now a.end_y.now in CursorIs ls a.grid (beside ls a.grid a.offsets.now a.items.now a.globals.now a.global_count) a.bookmark c.in_ok-cursor.cursor =
    let a = c.args in
    let ls = lines a.start_x.now a.start_y.now a.end_x.now a.end_y.now in
    let t = beside ls a.grid a.offsets.now a.items.now a.globals.now a.global_count in
    c.in_ok-cursor.ensures in
    let asks : let a = c.args in let ls = lines a.start_x.now a.start_y.now a.end_x.now a.end_y.now in RunAsks ls a.grid (beside ls a.grid a.offsets.now a.items.now a.globals.now a.global_count) c.in_ok-cursor.cursor a.first.now a.second.now =
    let a = c.args in
    let ls = lines a.start_x.now a.start_y.now a.end_x.now a.end_y.now in
    run_asks ls a.grid a.offsets.now a.items.now a.globals.now a.global_count a.bookmark c.in_ok-cursor.cursor found a.first.now a.second.now a.places.now same in
    let a = c.args in
    let ls = lines a.start_x.now a.start_y.now a.end_x.now a.end_y.now in
    cells_asks ls a.grid a.offsets.now a.items.now a.globals.now a.global_count c.in_ok-cursor.cursor a.first.now a.second.now a.places.now asks _ refl

pub run_globals-global-requires : goal.run_globals-global-requires
run_globals-global-requires c =
    let same : let a = c.args in outputs_check a.first.now a.second.now ≡ (Ok tt) = let a = c.args in outputs_alike a.first.now a.second.now c.if-first-second.false in
    let found : let a = c.args in let ls = lines a.start_x.now a.start_y.now a.end_x.now a.end_y.now in CursorIs ls a.grid (beside ls a.grid a.offsets.now a.items.now a.globals.now a.global_count) a.bookmark c.in_ok-cursor.cursor =
    let a = c.args in
    let ls = lines a.start_x.now a.start_y.now a.end_x.now a.end_y.now in
    let t = beside ls a.grid a.offsets.now a.items.now a.globals.now a.global_count in
    c.in_ok-cursor.ensures in
    let asks : let a = c.args in let ls = lines a.start_x.now a.start_y.now a.end_x.now a.end_y.now in RunAsks ls a.grid (beside ls a.grid a.offsets.now a.items.now a.globals.now a.global_count) c.in_ok-cursor.cursor a.first.now a.second.now =
    let a = c.args in
    let ls = lines a.start_x.now a.start_y.now a.end_x.now a.end_y.now in
    run_asks ls a.grid a.offsets.now a.items.now a.globals.now a.global_count a.bookmark c.in_ok-cursor.cursor found a.first.now a.second.now a.places.now same in
    let a = c.args in
    let ls = lines a.start_x.now a.start_y.now a.end_x.now a.end_y.now in
    globals_asks ls a.grid a.offsets.now a.items.now a.globals.now a.global_count c.in_ok-cursor.cursor a.first.now a.second.now a.places.now asks _ refl _ _ _ c.run_cells-listed.result c.run_cells-listed.ensures

pub overflow_add-made : goal.overflow_add-made
overflow_add-made c =
    let same : let a = c.args in outputs_check a.first.now a.second.now ≡ (Ok tt) = let a = c.args in outputs_alike a.first.now a.second.now c.if-first-second.false in
    let found : let a = c.args in let ls = lines a.start_x.now a.start_y.now a.end_x.now a.end_y.now in CursorIs ls a.grid (beside ls a.grid a.offsets.now a.items.now a.globals.now a.global_count) a.bookmark c.in_ok-cursor.cursor =
    let a = c.args in
    let ls = lines a.start_x.now a.start_y.now a.end_x.now a.end_y.now in
    let t = beside ls a.grid a.offsets.now a.items.now a.globals.now a.global_count in
    c.in_ok-cursor.ensures in
    let asks : let a = c.args in let ls = lines a.start_x.now a.start_y.now a.end_x.now a.end_y.now in RunAsks ls a.grid (beside ls a.grid a.offsets.now a.items.now a.globals.now a.global_count) c.in_ok-cursor.cursor a.first.now a.second.now =
    let a = c.args in
    let ls = lines a.start_x.now a.start_y.now a.end_x.now a.end_y.now in
    run_asks ls a.grid a.offsets.now a.items.now a.globals.now a.global_count a.bookmark c.in_ok-cursor.cursor found a.first.now a.second.now a.places.now same in
    let a = c.args in
    let ls = lines a.start_x.now a.start_y.now a.end_x.now a.end_y.now in
    record { fits = run_small ls a.grid a.offsets.now a.items.now a.globals.now a.global_count c.in_ok-cursor.cursor a.first.now a.second.now a.places.now asks _ refl _ _ _ c.run_cells-listed.result c.run_cells-listed.ensures _ _ _ c.run_globals-global.result c.run_globals-global.ensures }

pub overflow_add-result : goal.overflow_add-result
overflow_add-result c =
    let found : let a = c.args in let ls = lines a.start_x.now a.start_y.now a.end_x.now a.end_y.now in CursorIs ls a.grid (beside ls a.grid a.offsets.now a.items.now a.globals.now a.global_count) a.bookmark c.in_ok-cursor.cursor =
    let a = c.args in
    let ls = lines a.start_x.now a.start_y.now a.end_x.now a.end_y.now in
    let t = beside ls a.grid a.offsets.now a.items.now a.globals.now a.global_count in
    c.in_ok-cursor.ensures in
    let same : let a = c.args in outputs_check a.first.now a.second.now ≡ (Ok tt) = let a = c.args in outputs_alike a.first.now a.second.now c.if-first-second.false in
    let asks : let a = c.args in let ls = lines a.start_x.now a.start_y.now a.end_x.now a.end_y.now in RunAsks ls a.grid (beside ls a.grid a.offsets.now a.items.now a.globals.now a.global_count) c.in_ok-cursor.cursor a.first.now a.second.now =
    let a = c.args in
    let ls = lines a.start_x.now a.start_y.now a.end_x.now a.end_y.now in
    run_asks ls a.grid a.offsets.now a.items.now a.globals.now a.global_count a.bookmark c.in_ok-cursor.cursor found a.first.now a.second.now a.places.now same in
    let a = c.args in
    let ls = lines a.start_x.now a.start_y.now a.end_x.now a.end_y.now in
    record { fits = bookmark_fits ls a.grid a.offsets.now a.items.now a.globals.now a.global_count a.bookmark c.in_ok-cursor.cursor found a.first.now a.second.now a.places.now _ _ _ _ (run_is ls a.grid a.offsets.now a.items.now a.globals.now a.global_count c.in_ok-cursor.cursor a.first.now a.second.now a.places.now asks _ refl _ _ _ c.run_cells-listed.result c.run_cells-listed.ensures _ _ _ c.run_globals-global.result c.run_globals-global.ensures) }

pub returns-in_err-cursor : goal.returns-in_err-cursor
returns-in_err-cursor c =
    let same : let a = c.args in outputs_check a.first.now a.second.now ≡ (Ok tt) = let a = c.args in outputs_alike a.first.now a.second.now c.if-first-second.false in
    let a = c.args in
    let ls = lines a.start_x.now a.start_y.now a.end_x.now a.end_y.now in
    let t = beside ls a.grid a.offsets.now a.items.now a.globals.now a.global_count in
    let p = err_from_is_err_and c.from_residual.result c.from_residual.ensures.1 in
    rw (p.1, p.2) (batch_refused ls a.grid t a.bookmark a.first.now a.second.now a.places.now same _ c.in_err-cursor.ensures)

pub shape_of-first : goal.shape_of-first
shape_of-first c = c.clear_from.auto.s ∙ c.run_globals-global.auto.first ∙ c.run_cells-listed.auto.first

pub shape_of-second : goal.shape_of-second
shape_of-second c = c.clear_from-2.auto.s ∙ c.run_globals-global.auto.second ∙ c.run_cells-listed.auto.second

pub shape_of-places : goal.shape_of-places
shape_of-places c = c.clear_from-3.auto.s ∙ c.run_globals-global.auto.places ∙ c.run_cells-listed.auto.places

pub returns : goal.returns
returns c =
    let same : let a = c.args in outputs_check a.first.now a.second.now ≡ (Ok tt) = let a = c.args in outputs_alike a.first.now a.second.now c.if-first-second.false in
    let found : let a = c.args in let ls = lines a.start_x.now a.start_y.now a.end_x.now a.end_y.now in CursorIs ls a.grid (beside ls a.grid a.offsets.now a.items.now a.globals.now a.global_count) a.bookmark c.in_ok-cursor.cursor =
    let a = c.args in
    let ls = lines a.start_x.now a.start_y.now a.end_x.now a.end_y.now in
    let t = beside ls a.grid a.offsets.now a.items.now a.globals.now a.global_count in
    c.in_ok-cursor.ensures in
    let asks : let a = c.args in let ls = lines a.start_x.now a.start_y.now a.end_x.now a.end_y.now in RunAsks ls a.grid (beside ls a.grid a.offsets.now a.items.now a.globals.now a.global_count) c.in_ok-cursor.cursor a.first.now a.second.now =
    let a = c.args in
    let ls = lines a.start_x.now a.start_y.now a.end_x.now a.end_y.now in
    run_asks ls a.grid a.offsets.now a.items.now a.globals.now a.global_count a.bookmark c.in_ok-cursor.cursor found a.first.now a.second.now a.places.now same in
    let a = c.args in
    let ls = lines a.start_x.now a.start_y.now a.end_x.now a.end_y.now in
    let t = beside ls a.grid a.offsets.now a.items.now a.globals.now a.global_count in
    batch_done ls a.grid t a.bookmark a.first.now a.second.now a.places.now same c.in_ok-cursor.cursor found _ _ _ _ (run_is ls a.grid a.offsets.now a.items.now a.globals.now a.global_count c.in_ok-cursor.cursor a.first.now a.second.now a.places.now asks _ refl _ _ _ c.run_cells-listed.result c.run_cells-listed.ensures _ _ _ c.run_globals-global.result c.run_globals-global.ensures) _ _ _ c.clear_from.ensures c.clear_from-2.ensures c.clear_from-3.ensures
