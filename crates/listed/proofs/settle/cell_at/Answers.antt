-- `listed::settle::cell_at` meets its contract. The invariant: the same is left as at the start. Assumes nothing.
use native.Mathlib.Omega.{arith}
use Rattle.listed.proofs.CellLaws.{settling_none, settled_past, settled_here, settling_more, settling_passed, next_passed}
use Rattle.listed.proofs.ListLaws.{row_at_is, row_at_past}
use Rattle.listed.proofs.settle.cell_at.Goals as goal

pub loop-cell-init : goal.loop-cell-init
loop-cell-init c = settling_none _ _ _ _ _ _ _

pub returns-in-Some : goal.returns-in-Some
returns-in-Some c = settled_here _ _ _ _ _ _ _ _ _ _ c.loop-cell.invariant c.loop-cell-test.true _ c.list_of-list.ensures _ _ (row_at_is _ _ _ _ c.row_at.ensures _ _ c.in-Some.is)

pub loop-cell-smaller : goal.loop-cell-smaller
loop-cell-smaller c = omega (arith, c.next_cell-cell.ensures.onward)

pub loop-cell-preserved : goal.loop-cell-preserved
loop-cell-preserved c =
    settling_passed _ _ _ _ _ _ _ _ _
    (settling_more _ _ _ _ _ _ _ _ _ _ c.loop-cell.invariant c.loop-cell-test.true _ c.list_of-list.ensures (row_at_past _ _ _ _ c.row_at.ensures c.in_default.is))
    (next_passed _ _ _ _ c.next_cell-cell.ensures)

pub returns : goal.returns
returns c = settled_past _ _ _ _ _ _ _ _ _ _ c.loop-cell.invariant c.loop-cell-test.false
