-- `once::globals::scan_globals` meets its contract. Assumes nothing.
use Prim.Native.Nat.{◌-◌}
use Rattle.grid.specs.Domain.{lines, count}
use Rattle.visit.specs.Overlap.{overlap}
use Rattle.once.specs.Inside.{LinesChecked}
use Rattle.first_tests.proofs.Runs.{Globals}
use Rattle.once.proofs.globals.scan_globals.Given as goal

abbrev pub invariant-loop-p : goal.invariant-loop-p
invariant-loop-p l = let ls = lines l.start_x l.start_y l.end_x l.end_y in LinesChecked ls (Globals (overlap ls) (count ls) l.n l.globals l.global_count l.starts l.listing l.counts l.initial.first l.initial.second l.hits-2 l.first l.second l.hits l.p)
