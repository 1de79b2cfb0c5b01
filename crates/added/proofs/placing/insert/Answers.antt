-- `added::placing::insert` meets its contract. Assumes nothing.
use Rattle.added.proofs.Laid.{insert_spreads, insert_raises, inserted}
use Rattle.added.proofs.placing.insert.Goals as goal

pub spread_items-requires : goal.spread_items-requires
spread_items-requires c = insert_spreads c.requires 0

pub raise_offsets-requires : goal.raise_offsets-requires
raise_offsets-requires c = insert_raises c.requires 0

pub returns : goal.returns
returns c =
    let x = c.spread_items in
    let y = c.raise_offsets in
    inserted c.requires _ x.ensures x.auto.items c.clear_from.ensures y.ensures y.auto.offsets c.clear_from-2.ensures
