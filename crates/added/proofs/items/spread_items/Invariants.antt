-- `added::items::spread_items` meets its contract. Assumes nothing.
use Rattle.added.proofs.Spreads.{Spreading}
use Rattle.added.proofs.items.spread_items.Given as goal

abbrev pub invariant-loop-j : goal.invariant-loop-j
invariant-loop-j l = Spreading l.n l.visited l.offsets l.total l.initial.items l.items l.end l.j
