-- `seek::bookmarks::pair_at` meets its contract. Assumes nothing.
use Rattle.refusals.proofs.Answers.{at_exit}
use mathlib.Core.Path.{sym}
use Rattle.grid.specs.Domain.{lines}
use Rattle.tables.specs.Tables.{beside}
use Rattle.seek.specs.Inside.{SoughtAt}
use Rattle.seek.proofs.FindLaws.{seek_at, seek_beyond, find_refused, find_beyond, pair_none, pair_read}
use Rattle.seek.proofs.bookmarks.pair_at.Goals as goal

pub returns-in_err-check_visit : goal.returns-in_err-check_visit
returns-in_err-check_visit c =
    let a = c.args in
    let ls = lines a.start_x.now a.start_y.now a.end_x.now a.end_y.now in
    let t = beside ls a.grid a.offsets.now a.items.now a.globals.now a.global_count in
    at_exit c.from_residual.ensures.1 (pair_none ls a.grid t a.bookmark _ (find_refused ls a.grid t a.bookmark _ (sym c.in_err-check_visit.ensures)))

pub seek-sought-requires : goal.seek-sought-requires
seek-sought-requires c =
    let a = c.args in
    let ls = lines a.start_x.now a.start_y.now a.end_x.now a.end_y.now in
    let t = beside ls a.grid a.offsets.now a.items.now a.globals.now a.global_count in
    sym c.in_ok-check_visit.ensures

pub returns-in_default : goal.returns-in_default
returns-in_default c =
    let a = c.args in
    let ls = lines a.start_x.now a.start_y.now a.end_x.now a.end_y.now in
    let t = beside ls a.grid a.offsets.now a.items.now a.globals.now a.global_count in
    pair_none ls a.grid t a.bookmark _ (find_beyond ls a.grid t a.bookmark (sym c.in_ok-check_visit.ensures) (seek_beyond ls a.grid t a.bookmark _ c.seek-sought.ensures c.in_default.is))

pub pair_of-requires : goal.pair_of-requires
pair_of-requires c =
    let sought : let a = c.args in let ls = lines a.start_x.now a.start_y.now a.end_x.now a.end_y.now in SoughtAt ls a.grid (beside ls a.grid a.offsets.now a.items.now a.globals.now a.global_count) a.bookmark c.in-Some.cursor =
    let a = c.args in
    let ls = lines a.start_x.now a.start_y.now a.end_x.now a.end_y.now in
    let t = beside ls a.grid a.offsets.now a.items.now a.globals.now a.global_count in
    seek_at ls a.grid t a.bookmark _ c.seek-sought.ensures c.in-Some.cursor c.in-Some.is in
    sought.asks

pub returns : goal.returns
returns c =
    let sought : let a = c.args in let ls = lines a.start_x.now a.start_y.now a.end_x.now a.end_y.now in SoughtAt ls a.grid (beside ls a.grid a.offsets.now a.items.now a.globals.now a.global_count) a.bookmark c.in-Some.cursor =
    let a = c.args in
    let ls = lines a.start_x.now a.start_y.now a.end_x.now a.end_y.now in
    let t = beside ls a.grid a.offsets.now a.items.now a.globals.now a.global_count in
    seek_at ls a.grid t a.bookmark _ c.seek-sought.ensures c.in-Some.cursor c.in-Some.is in
    let a = c.args in
    let ls = lines a.start_x.now a.start_y.now a.end_x.now a.end_y.now in
    let t = beside ls a.grid a.offsets.now a.items.now a.globals.now a.global_count in
    pair_read ls a.grid t a.bookmark c.in-Some.cursor sought c.pair_of.result c.pair_of.ensures
