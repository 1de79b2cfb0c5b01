-- `added::offsets::raise_offsets` meets its contract. Assumes nothing.
use Rattle.added.proofs.Spreads.{Lifting}
use Rattle.added.proofs.offsets.raise_offsets.Given as goal

abbrev pub invariant-loop-j : goal.invariant-loop-j
invariant-loop-j l = Lifting l.visited l.initial.offsets l.end l.offsets l.to l.j
