-- `through::scan::scan_few` meets its contract. The invariant: the entries before u are done. Assumes nothing.
use Rattle.through.proofs.BriefTurns.{FewTurn}
use Rattle.through.proofs.scan.scan_few.Given as goal

abbrev pub invariant-loop-u : goal.invariant-loop-u
invariant-loop-u l = FewTurn l.line l.bounds l.list l.flat l.at l.initial.first l.initial.second l.hits-2 l.first l.second l.hits l.u
