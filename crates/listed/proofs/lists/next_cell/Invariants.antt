-- `listed::lists::next_cell` meets its contract. The invariant: the cells before this one are passed over. Assumes nothing.
use Rattle.listed.proofs.CellLaws.{Looking}
use Rattle.listed.proofs.lists.next_cell.Given as goal

abbrev pub invariant-loop-i : goal.invariant-loop-i
invariant-loop-i l = Looking l.reach l.offsets l.cell l.last l.i
