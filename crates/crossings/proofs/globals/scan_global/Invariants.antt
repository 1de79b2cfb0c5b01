-- `crossings::globals::scan_global` meets its contract. Assumes nothing.
use Prim.Native.Nat.{◌+◌, ◌-◌}
use Rattle.samples.specs.Samples.{samples, sample_count}
use Rattle.samples.specs.Sharing.{shares}
use Rattle.crossings.specs.Inside.{RaisedHeld}
use Rattle.first_tests.proofs.Runs.{Runs}
use Rattle.crossings.proofs.globals.scan_global.Given as goal

abbrev pub invariant-loop-q : goal.invariant-loop-q
invariant-loop-q l = let ss = samples l.start_x l.start_y l.end_x l.end_y in RaisedHeld ss l.row (Runs (shares ss) (sample_count ss) l.n l.p l.globals l.starts l.listing l.counts l.row.first l.initial.first l.initial.second l.hits-2 l.first l.second l.hits l.k l.q)

abbrev pub decreases-loop-q : goal.decreases-loop-q
decreases-loop-q l = (l.p + 1) - l.q
