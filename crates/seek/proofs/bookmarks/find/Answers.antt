-- `seek::bookmarks::find` meets its contract. Assumes nothing.
use Rattle.std.proofs.lemmas.Result.{err_from_is_err_and}
use mathlib.Core.Path.{sym}
use Rattle.grid.specs.Domain.{lines}
use Rattle.tables.specs.Tables.{beside}
use Rattle.seek.proofs.FindLaws.{seek_at, seek_beyond, find_refused, find_beyond}
use Rattle.seek.proofs.bookmarks.find.Goals as goal

pub returns-in_err-check_visit : goal.returns-in_err-check_visit
returns-in_err-check_visit c =
    let a = c.args in
    let ls = lines a.start_x.now a.start_y.now a.end_x.now a.end_y.now in
    let t = beside ls a.grid a.offsets.now a.items.now a.globals.now a.global_count in
    let p = err_from_is_err_and c.from_residual.result c.from_residual.ensures.1 in
    rw (p.1, p.2) (find_refused ls a.grid t a.bookmark _ (sym c.in_err-check_visit.ensures))

pub seek-sought-requires : goal.seek-sought-requires
seek-sought-requires c =
    let a = c.args in
    let ls = lines a.start_x.now a.start_y.now a.end_x.now a.end_y.now in
    let t = beside ls a.grid a.offsets.now a.items.now a.globals.now a.global_count in
    sym c.in_ok-check_visit.ensures

pub returns-in_default : goal.returns-in_default
returns-in_default c =
    let a = c.args in
    let ls = lines a.start_x.now a.start_y.now a.end_x.now a.end_y.now in
    let t = beside ls a.grid a.offsets.now a.items.now a.globals.now a.global_count in
    find_beyond ls a.grid t a.bookmark (sym c.in_ok-check_visit.ensures) (seek_beyond ls a.grid t a.bookmark _ c.seek-sought.ensures c.in_default.is)

pub returns : goal.returns
returns c =
    let a = c.args in
    let ls = lines a.start_x.now a.start_y.now a.end_x.now a.end_y.now in
    let t = beside ls a.grid a.offsets.now a.items.now a.globals.now a.global_count in
    (seek_at ls a.grid t a.bookmark _ c.seek-sought.ensures c.in-Some.cursor c.in-Some.is).is
