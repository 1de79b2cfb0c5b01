-- `visit::visits::batch_with_places` meets its contract: 3 where the places' slice has another length, and else what both batches make. Assumes nothing.
use Rattle.grid.specs.Domain.{lines}
use Rattle.tables.specs.Tables.{beside}
use Rattle.visit.proofs.EntryLaws.{places_alike, places_unlike, placed_unlike, placed_made}
use Rattle.visit.proofs.visits.batch_with_places.Goals as goal

pub returns-then-first-places : goal.returns-then-first-places
returns-then-first-places c =
    let a = c.args in
    let ls = lines a.start_x.now a.start_y.now a.end_x.now a.end_y.now in
    let t = beside ls a.grid a.offsets.now a.items.now a.globals.now a.global_count in
    placed_unlike ls a.grid t a.bookmark a.first.now a.second.now a.places.now _ (places_unlike a.first.now a.places.now c.if-first-places.true)

pub returns : goal.returns
returns c =
    let a = c.args in
    let ls = lines a.start_x.now a.start_y.now a.end_x.now a.end_y.now in
    let t = beside ls a.grid a.offsets.now a.items.now a.globals.now a.global_count in
    placed_made ls a.grid t a.bookmark a.first.now a.second.now a.places.now (places_alike a.first.now a.places.now c.if-first-places.false) _ _ _ _ c.make_batch.ensures
