-- `visit::scan::run_globals` meets its contract. The invariant: what a batch of the globals' tests makes is what was made and what a batch of the rest makes. Assumes nothing.
use Prim.Native.Nat.{◌-◌}
use lib.ListN.{length}
use Rattle.grid.specs.Domain.{lines}
use Rattle.seek.specs.Cursors.{globals_rest}
use Rattle.visit.proofs.RunTurns.{GlobalsRun}
use Rattle.visit.proofs.scan.run_globals.Given as goal

abbrev pub invariant-loop-hits : goal.invariant-loop-hits
invariant-loop-hits l = GlobalsRun (lines l.start_x l.start_y l.end_x l.end_y) l.cells l.count l.globals l.initial.p l.initial.k l.initial.first l.initial.second l.initial.places l.initial.hits l.first l.second l.places l.p l.q l.k l.tests l.hits

abbrev pub decreases-loop-hits : goal.decreases-loop-hits
decreases-loop-hits l = length (globals_rest (length l.start_x) l.globals (l.count - l.p) l.p l.k)
