-- `chain::show::put_cells` meets its contract. The invariant: the lines of the cells before `cell` are put. Assumes nothing.
use mathlib.Core.Path.{refl, ◌∙◌}
use native.Mathlib.Omega.{arith}
use Rattle.chain.proofs.Showing.{cells_none, cells_more, cells_all}
use Rattle.chain.proofs.show.put_cells.Goals as goal

pub overflow_mul-cells : goal.overflow_mul-cells
overflow_mul-cells c = record { fits = c.requires.few }

pub loop-cell-init : goal.loop-cell-init
loop-cell-init c = (omega arith, refl, c.requires.few, refl, cells_none _ _)

pub put_cell-at-requires : goal.put_cell-at-requires
put_cell-at-requires c = record { lists = c.requires.lists; inside = let e = c.loop-cell.invariant.1 in omega arith }

pub loop-cell-preserved : goal.loop-cell-preserved
loop-cell-preserved c =
    let l = c.loop-cell in
    (omega arith, l.invariant.1, l.invariant.2, c.put_cell-at.auto.out ∙ l.invariant.3, cells_more _ l.cell l.invariant.4 c.put_cell-at.ensures)

pub shape_of-out : goal.shape_of-out
shape_of-out c = c.loop-cell.invariant.3

pub returns : goal.returns
returns c = cells_all _ c.loop-cell.cell (let e = c.loop-cell.invariant.1 in omega arith) c.loop-cell.invariant.4
