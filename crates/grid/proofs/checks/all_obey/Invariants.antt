use Prim.Native.Nat.{◌-◌}
use Rattle.grid.specs.Domain.{lines}
use Rattle.grid.proofs.Fine.{Looked}
use Rattle.grid.proofs.checks.all_obey.Given as goal

-- `grid::checks::all_obey` meets its contract. The invariant: where all that were looked at obey the rule, the search has passed them. Assumes nothing.
abbrev pub invariant-loop-i : goal.invariant-loop-i
invariant-loop-i l = Looked (lines l.start_x l.start_y l.end_x l.end_y) l.all l.i
