-- `visit::visits::test_at` meets its contract. Assumes nothing.
use Rattle.std.specs.Prelude.{Ok, Some}
use Rattle.refusals.proofs.Answers.{at_exit}
use mathlib.Core.Path.{◌≡◌, refl}
use Rattle.tables.specs.Tables.{beside}
use Rattle.grid.specs.Domain.{lines}
use Rattle.seek.specs.Bookmarks.{pair_at}
use Rattle.visit.proofs.EntryLaws.{test_refused, test_end, first_asks, second_asks, test_made}
use Rattle.visit.proofs.visits.test_at.Goals as goal

pub row_of-row-requires : goal.row_of-row-requires
row_of-row-requires c =
    let stands : let a = c.args in let ls = lines a.start_x.now a.start_y.now a.end_x.now a.end_y.now in let t = beside ls a.grid a.offsets.now a.items.now a.globals.now a.global_count in Ok (Some (record { place = c.in-Some.found.place; first = c.in-Some.found.first; second = c.in-Some.found.second })) ≡ pair_at ls a.grid t a.bookmark = rw c.in-Some.is at c.in_ok-pair.ensures in
    let a = c.args in
    let ls = lines a.start_x.now a.start_y.now a.end_x.now a.end_y.now in
    let t = beside ls a.grid a.offsets.now a.items.now a.globals.now a.global_count in
    first_asks ls a.grid t a.bookmark c.in-Some.found.place c.in-Some.found.first c.in-Some.found.second stands refl

pub test_with-requires : goal.test_with-requires
test_with-requires c =
    let stands : let a = c.args in let ls = lines a.start_x.now a.start_y.now a.end_x.now a.end_y.now in let t = beside ls a.grid a.offsets.now a.items.now a.globals.now a.global_count in Ok (Some (record { place = c.in-Some.found.place; first = c.in-Some.found.first; second = c.in-Some.found.second })) ≡ pair_at ls a.grid t a.bookmark = rw c.in-Some.is at c.in_ok-pair.ensures in
    let a = c.args in
    let ls = lines a.start_x.now a.start_y.now a.end_x.now a.end_y.now in
    let t = beside ls a.grid a.offsets.now a.items.now a.globals.now a.global_count in
    second_asks ls a.grid t a.bookmark c.in-Some.found.place c.in-Some.found.first c.in-Some.found.second stands c.row_of-row.result c.row_of-row.ensures refl

pub returns-in_err-pair : goal.returns-in_err-pair
returns-in_err-pair c =
    let a = c.args in
    let ls = lines a.start_x.now a.start_y.now a.end_x.now a.end_y.now in
    let t = beside ls a.grid a.offsets.now a.items.now a.globals.now a.global_count in
    at_exit c.from_residual.ensures.1 (test_refused ls a.grid t a.bookmark _ c.in_err-pair.ensures)

pub returns-in_default : goal.returns-in_default
returns-in_default c =
    let a = c.args in
    let ls = lines a.start_x.now a.start_y.now a.end_x.now a.end_y.now in
    let t = beside ls a.grid a.offsets.now a.items.now a.globals.now a.global_count in
    test_end ls a.grid t a.bookmark (rw c.in_default.is at c.in_ok-pair.ensures)

pub returns : goal.returns
returns c =
    let stands : let a = c.args in let ls = lines a.start_x.now a.start_y.now a.end_x.now a.end_y.now in let t = beside ls a.grid a.offsets.now a.items.now a.globals.now a.global_count in Ok (Some (record { place = c.in-Some.found.place; first = c.in-Some.found.first; second = c.in-Some.found.second })) ≡ pair_at ls a.grid t a.bookmark = rw c.in-Some.is at c.in_ok-pair.ensures in
    let a = c.args in
    let ls = lines a.start_x.now a.start_y.now a.end_x.now a.end_y.now in
    let t = beside ls a.grid a.offsets.now a.items.now a.globals.now a.global_count in
    test_made ls a.grid t a.bookmark c.in-Some.found.place c.in-Some.found.first c.in-Some.found.second stands c.row_of-row.result c.row_of-row.ensures c.test_with.result c.test_with.ensures
