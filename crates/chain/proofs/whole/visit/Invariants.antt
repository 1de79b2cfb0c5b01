-- `chain::whole::visit` meets its contract. The invariant: so many tests were made, and the overlaps among them counted. Assumes nothing.
use Prim.Native.Nat.{◌-◌}
use lib.ListN.{length}
use Rattle.grid.specs.Domain.{lines}
use Rattle.seek.specs.Tests.{tests_of}
use Rattle.tables.specs.Tables.{beside}
use Rattle.chain.proofs.Visiting.{Visiting}
use Rattle.chain.proofs.whole.visit.Given as goal

abbrev pub invariant-loop-t : goal.invariant-loop-t
invariant-loop-t l = Visiting (lines l.start_x l.start_y l.end_x l.end_y) (beside (lines l.start_x l.start_y l.end_x l.end_y) l.grid l.offsets l.items l.globals l.global_count) l.tests l.overlaps

abbrev pub decreases-loop-t : goal.decreases-loop-t
decreases-loop-t l = length (tests_of (beside (lines l.start_x l.start_y l.end_x l.end_y) l.grid l.offsets l.items l.globals l.global_count)) - l.tests
