-- `crossings::rows::scan_list` meets its contract. Assumes nothing.
use Prim.Native.Nat.{◌-◌}
use lib.ListN.{length}
use Rattle.samples.specs.Samples.{samples, sample_count}
use Rattle.samples.specs.Sharing.{shares}
use Rattle.crossings.specs.Inside.{RaisedHeld}
use Rattle.first_tests.proofs.Passing.{MarkScan}
use Rattle.crossings.proofs.rows.scan_list.Given as goal

abbrev pub invariant-loop-j : goal.invariant-loop-j
invariant-loop-j l =
    let ss = samples l.start_x l.start_y l.end_x l.end_y in
    RaisedHeld ss l.row (MarkScan (shares ss) (sample_count ss) l.row.first l.mark l.row.sure l.list l.marks l.starts l.listing l.counts l.initial.first l.initial.second l.hits-2 l.first l.second l.hits l.j)

abbrev pub decreases-loop-j : goal.decreases-loop-j
decreases-loop-j l = length l.list - l.j
