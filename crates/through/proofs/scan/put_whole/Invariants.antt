-- `through::scan::put_whole` meets its contract. The invariant: the entries before u are done, where all bytes are 1. Assumes nothing.
use Rattle.through.proofs.ScanTurns.{Filling}
use Rattle.through.proofs.scan.put_whole.Given as goal

abbrev pub invariant-loop-u : goal.invariant-loop-u
invariant-loop-u l = Filling l.line l.list l.initial.first l.initial.second l.hits-2 l.first l.second l.hits l.u
