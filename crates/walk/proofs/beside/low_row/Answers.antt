-- `walk::beside::low_row` meets its contract. Assumes nothing.
use native.Mathlib.Omega.{arith}
use Rattle.cover.proofs.Growing.{none, one}
use Rattle.walk.proofs.Added.{row_none, row_one}
use Rattle.walk.proofs.beside.low_row.Goals as goal

pub returns-then-c-cols : goal.returns-then-c-cols
returns-then-c-cols c = rw (row_none _ _ c.if-c-cols.true) (none (omega arith))

pub returns : goal.returns
returns c = rw (row_one _ _ c.if-c-cols.false) (one _ _ _ (omega arith))
