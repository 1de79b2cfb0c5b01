-- `by_line::passes::place_all` meets its contract. Assumes nothing.
use Rattle.by_line.proofs.Turns.{Placing}
use Rattle.by_line.proofs.passes.place_all.Given as goal

abbrev pub invariant-loop-cell : goal.invariant-loop-cell
invariant-loop-cell l = Placing l.cells l.lines l.offsets l.items l.initial.starts l.initial.listing l.starts l.listing l.cell
