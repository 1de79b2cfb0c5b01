-- `crossings::cells::scan_rows` meets its contract. Assumes nothing.
use Prim.Native.Nat.{◌-◌}
use lib.ListN.{length}
use Rattle.samples.specs.Samples.{samples, sample_count}
use Rattle.samples.specs.Sharing.{shares}
use Rattle.first_tests.proofs.Passing.{MarkRows}
use Rattle.crossings.proofs.cells.scan_rows.Given as goal

abbrev pub invariant-loop-i : goal.invariant-loop-i
invariant-loop-i l = let ss = samples l.start_x l.start_y l.end_x l.end_y in MarkRows (shares ss) (sample_count ss) l.sure l.list l.marks l.starts l.listing l.counts l.initial.first l.initial.second l.hits-2 l.first l.second l.hits l.i

abbrev pub decreases-loop-i : goal.decreases-loop-i
decreases-loop-i l = length l.list - l.i
