-- `listed::settle::cell_at` meets its contract. The invariant: the same is left as at the start. Assumes nothing.
use Prim.Native.Nat.{◌-◌}
use Rattle.listed.proofs.CellLaws.{Settling}
use Rattle.listed.proofs.settle.cell_at.Given as goal

abbrev pub invariant-loop-cell : goal.invariant-loop-cell
invariant-loop-cell l = Settling l.lines l.reach l.offsets l.items l.cell-2 l.i-2 l.j-2 l.cell l.i l.j

abbrev pub decreases-loop-cell : goal.decreases-loop-cell
decreases-loop-cell l = l.reach - l.cell
