-- `visit::scan::put_places` meets its contract. The invariant: what is put so far. Assumes nothing.
use Rattle.visit.proofs.Placing.{Putting}
use Rattle.visit.proofs.scan.put_places.Given as goal

abbrev pub invariant-loop-i : goal.invariant-loop-i
invariant-loop-i l = Putting l.initial.places l.from l.to l.number l.places l.i
