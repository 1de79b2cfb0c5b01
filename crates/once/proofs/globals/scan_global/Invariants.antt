-- `once::globals::scan_global` meets its contract. Assumes nothing.
use Prim.Native.Nat.{◌+◌, ◌-◌}
use Rattle.grid.specs.Domain.{lines, count}
use Rattle.visit.specs.Overlap.{overlap}
use Rattle.once.specs.Inside.{RowHeld}
use Rattle.first_tests.proofs.Runs.{Runs}
use Rattle.once.proofs.globals.scan_global.Given as goal

abbrev pub invariant-loop-q : goal.invariant-loop-q
invariant-loop-q l = let ls = lines l.start_x l.start_y l.end_x l.end_y in RowHeld ls l.row (Runs (overlap ls) (count ls) l.n l.p l.globals l.starts l.listing l.counts l.row.first l.initial.first l.initial.second l.hits-2 l.first l.second l.hits l.k l.q)

abbrev pub decreases-loop-q : goal.decreases-loop-q
decreases-loop-q l = (l.p + 1) - l.q
