-- `lent::finish` meets its contract. Assumes nothing.
use Rattle.lent.proofs.Ending.{end_short, end_room}
use Rattle.lent.proofs.finish.Goals as goal

pub returns-then-first-hits : goal.returns-then-first-hits
returns-then-first-hits c =
    let a = c.args in
    end_short a.hits a.first.now a.second.now a.starts.now a.listing.now a.counts.now c.clear.ensures c.clear-2.ensures c.clear-3.ensures c.if-first-hits.true c.clear-then-first-hits.ensures c.clear-then-first-hits-2.ensures

pub returns : goal.returns
returns c =
    let a = c.args in
    end_room a.hits a.first.now a.second.now a.starts.now a.listing.now a.counts.now c.clear.ensures c.clear-2.ensures c.clear-3.ensures c.if-first-hits.false c.clear_from.ensures c.clear_from-2.ensures
