-- `walk::beside::up_row` meets its contract. Assumes nothing.
use native.Mathlib.Omega.{arith}
use Rattle.cover.proofs.Growing.{none, one}
use Rattle.walk.proofs.Added.{up_row_none, up_row_one}
use Rattle.walk.proofs.beside.up_row.Goals as goal

pub returns-then-next-cells : goal.returns-then-next-cells
returns-then-next-cells c = rw (up_row_one _ _ _ c.if-next-cells.true) (one _ _ _ (omega arith))

pub returns : goal.returns
returns c = rw (up_row_none _ _ _ c.if-next-cells.false) (none (omega arith))
