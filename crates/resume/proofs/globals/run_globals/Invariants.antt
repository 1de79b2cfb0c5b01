-- `resume::globals::run_globals` meets its contract. The invariant: what was left at the start is what was made and what is left now. Assumes nothing.
use lib.ListN.{length}
use Rattle.grid.specs.Domain.{lines}
use Rattle.resume.proofs.GlobalTurns.{GlobalsRun}
use Rattle.resume.specs.Cursors.{globals_from}
use Rattle.resume.proofs.globals.run_globals.Given as goal

abbrev pub invariant-loop-hits : goal.invariant-loop-hits
invariant-loop-hits l = GlobalsRun (lines l.start_x l.start_y l.end_x l.end_y) l.globals l.p-2 l.q-2 l.k-2 l.initial.first l.initial.second l.hits-2 l.n l.first l.second l.p l.q l.k l.tests l.hits

abbrev pub decreases-loop-hits : goal.decreases-loop-hits
decreases-loop-hits l = length (globals_from (length l.start_x) l.globals l.p l.k)
