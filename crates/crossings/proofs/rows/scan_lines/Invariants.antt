-- `crossings::rows::scan_lines` meets its contract. Assumes nothing.
use Prim.Native.Nat.{◌-◌}
use Rattle.samples.specs.Samples.{samples, sample_count}
use Rattle.samples.specs.Sharing.{shares}
use Rattle.crossings.specs.Inside.{RaisedHeld}
use Rattle.first_tests.proofs.Scans.{LineScan}
use Rattle.crossings.proofs.rows.scan_lines.Given as goal

abbrev pub invariant-loop-b : goal.invariant-loop-b
invariant-loop-b l = let ss = samples l.start_x l.start_y l.end_x l.end_y in RaisedHeld ss l.row (LineScan (shares ss) (sample_count ss) l.row.first l.k l.stop l.starts l.listing l.counts l.initial.first l.initial.second l.hits-2 l.first l.second l.hits l.b)

abbrev pub decreases-loop-b : goal.decreases-loop-b
decreases-loop-b l = l.stop - l.b
