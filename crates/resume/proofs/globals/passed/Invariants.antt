-- `resume::globals::passed` meets its contract. The invariant: the globals before q are below the line. Assumes nothing.
use Rattle.resume.proofs.GlobalTurns.{Passing}
use Rattle.resume.proofs.globals.passed.Given as goal

abbrev pub invariant-loop-q : goal.invariant-loop-q
invariant-loop-q l = Passing l.globals l.p l.k l.q
