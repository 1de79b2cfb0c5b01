-- `through::scan::whole` meets its contract. The invariant: where all that were seen are 1, the bytes before u are. Assumes nothing.
use Rattle.through.proofs.ScanTurns.{Asking}
use Rattle.through.proofs.scan.whole.Given as goal

abbrev pub invariant-loop-u : goal.invariant-loop-u
invariant-loop-u l = Asking l.many l.marks l.all l.u
