-- `fill::passes::place_lines` meets its contract. Assumes nothing.
use Rattle.grid.specs.Domain.{lines}
use Rattle.fill.proofs.Places.{PlacingAll}
use Rattle.fill.proofs.passes.place_lines.Given as goal

abbrev pub invariant-loop-i : goal.invariant-loop-i
invariant-loop-i l = PlacingAll l.mode l.grid (lines l.start_x l.start_y l.end_x l.end_y) l.initial.offsets l.initial.items l.initial.globals l.initial.scratch l.offsets l.items l.globals l.scratch l.found l.i
