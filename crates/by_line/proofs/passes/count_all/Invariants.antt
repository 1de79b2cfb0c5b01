-- `by_line::passes::count_all` meets its contract. Assumes nothing.
use Rattle.by_line.proofs.Turns.{Counting}
use Rattle.by_line.proofs.passes.count_all.Given as goal

abbrev pub invariant-loop-cell : goal.invariant-loop-cell
invariant-loop-cell l = Counting l.cells l.lines l.offsets l.items l.initial.counts l.counts l.cell
