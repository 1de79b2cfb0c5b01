-- `window::write_found` meets its contract: the lines that are met are those that may enter the window. Assumes nothing.
use mathlib.Core.Path.{sym}
use lib.Seq.{length-take-le}
use Rattle.grid.specs.Domain.{lines}
use Rattle.tables.specs.Tables.{beside}
use Rattle.window.proofs.Entry.{fresh, fresh_few, globals_below, mid_enough, marks_enough, met_all}
use Rattle.window.proofs.write_found.Goals as goal

pub slice_bounds-mark_list-end-2 : goal.slice_bounds-mark_list-end-2
slice_bounds-mark_list-end-2 c = sym (length-take-le _ _ c.requires.checked.tables_fit_lem.counted)

pub mark_list-requires : goal.mark_list-requires
mark_list-requires c =
    let a = c.args in
    let ls = lines a.start_x.now a.start_y.now a.end_x.now a.end_y.now in
    let t = beside ls a.grid a.offsets.now a.items.now a.globals.now a.global_count in
    let h = c.requires.checked in
    globals_below t h.tables_fit_lem _ (fresh_few _ _ fresh h.few)

pub mark_block-requires : goal.mark_block-requires
mark_block-requires c =
    let a = c.args in
    let ls = lines a.start_x.now a.start_y.now a.end_x.now a.end_y.now in
    let t = beside ls a.grid a.offsets.now a.items.now a.globals.now a.global_count in
    let h = c.requires.checked in
    record { fit_grid = h.grid_fit; tables_fit = h.tables_fit_lem; lines_marked = mid_enough ls a.grid t a.window h.few _ _ fresh c.mark_list.ensures }

pub write_lines-requires : goal.write_lines-requires
write_lines-requires c =
    let a = c.args in
    let ls = lines a.start_x.now a.start_y.now a.end_x.now a.end_y.now in
    let t = beside ls a.grid a.offsets.now a.items.now a.globals.now a.global_count in
    let h = c.requires.checked in
    record { alike = h.alike; few = h.few; room = marks_enough ls a.grid t a.window h.few _ _ fresh c.mark_list.ensures _ c.mark_block.ensures }

pub returns : goal.returns
returns c =
    let a = c.args in
    let ls = lines a.start_x.now a.start_y.now a.end_x.now a.end_y.now in
    let t = beside ls a.grid a.offsets.now a.items.now a.globals.now a.global_count in
    let h = c.requires.checked in
    met_all ls a.grid t a.window h.few _ _ fresh c.mark_list.ensures _ c.mark_block.ensures c.requires.ordered _ _ _ c.write_lines.ensures
