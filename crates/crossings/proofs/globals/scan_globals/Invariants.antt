-- `crossings::globals::scan_globals` meets its contract. Assumes nothing.
use Prim.Native.Nat.{◌-◌}
use Rattle.samples.specs.Samples.{samples, sample_count}
use Rattle.samples.specs.Sharing.{shares}
use Rattle.first_tests.proofs.Runs.{Globals}
use Rattle.crossings.proofs.globals.scan_globals.Given as goal

abbrev pub invariant-loop-p : goal.invariant-loop-p
invariant-loop-p l = let ss = samples l.start_x l.start_y l.end_x l.end_y in (Globals (shares ss) (sample_count ss) l.n l.globals l.global_count l.starts l.listing l.counts l.initial.first l.initial.second l.hits-2 l.first l.second l.hits l.p)
