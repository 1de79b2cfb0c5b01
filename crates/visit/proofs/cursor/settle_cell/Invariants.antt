-- `visit::cursor::settle_cell` meets its contract. The invariant: the same is left as at the start. Assumes nothing.
use Rattle.visit.proofs.CellTurns.{Settling}
use Rattle.visit.proofs.cursor.settle_cell.Given as goal

abbrev pub invariant-loop-c : goal.invariant-loop-c
invariant-loop-c l = Settling l.cells l.offsets l.items l.initial.c l.initial.i l.initial.j l.c l.i l.j
