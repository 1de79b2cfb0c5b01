-- `grid::checks::check_coordinates` meets its contract. Assumes nothing.
use Prim.Native.Nat.{◌-◌}
use Rattle.grid.specs.Domain.{lines}
use Rattle.grid.proofs.Fine.{Searched}
use Rattle.grid.proofs.checks.check_coordinates.Given as goal

abbrev pub invariant-loop-i : goal.invariant-loop-i
invariant-loop-i l = Searched (lines l.start_x l.start_y l.end_x l.end_y) l.i
