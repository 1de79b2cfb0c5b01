-- `added::offsets::raise` meets its contract. Assumes nothing.
use Rattle.added.proofs.Parts.{Raising}
use Rattle.added.proofs.offsets.raise.Given as goal

abbrev pub invariant-loop-i : goal.invariant-loop-i
invariant-loop-i l = Raising l.from l.to l.by l.initial.offsets l.offsets l.i
