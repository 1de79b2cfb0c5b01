-- `through::scan::put_some` meets its contract. The invariant: the entries before u are done. Assumes nothing.
use Rattle.through.proofs.ScanTurns.{Putting}
use Rattle.through.proofs.scan.put_some.Given as goal

abbrev pub invariant-loop-u : goal.invariant-loop-u
invariant-loop-u l = Putting l.line l.list l.marks l.initial.first l.initial.second l.hits-2 l.first l.second l.hits l.u
