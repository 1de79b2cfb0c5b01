-- `fill::passes::count_lines` meets its contract. Assumes nothing.
use Rattle.grid.specs.Domain.{lines}
use Rattle.fill.proofs.Counts.{CountingAll}
use Rattle.fill.proofs.passes.count_lines.Given as goal

abbrev pub invariant-loop-i : goal.invariant-loop-i
invariant-loop-i l = CountingAll l.mode l.grid (lines l.start_x l.start_y l.end_x l.end_y) l.initial.offsets l.initial.scratch l.offsets l.scratch l.globals l.i
