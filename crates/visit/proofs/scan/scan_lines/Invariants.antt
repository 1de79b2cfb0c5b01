-- `visit::scan::scan_lines` meets its contract. The invariant: what a batch of the row makes is what was made and what a batch of the rest makes. Assumes nothing.
use Prim.Native.Nat.{◌-◌}
use Rattle.grid.specs.Domain.{lines}
use Rattle.visit.proofs.RowTurns.{LinesScan}
use Rattle.visit.proofs.scan.scan_lines.Given as goal

abbrev pub invariant-loop-hits : goal.invariant-loop-hits
invariant-loop-hits l = LinesScan (lines l.start_x l.start_y l.end_x l.end_y) l.row l.stop l.initial.k l.k l.initial.first l.initial.second l.initial.hits l.first l.second l.hits

abbrev pub decreases-loop-hits : goal.decreases-loop-hits
decreases-loop-hits l = l.stop - l.k
