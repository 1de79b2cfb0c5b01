-- `turns::pushes::put` meets its contract. Assumes nothing.
use Rattle.std.proofs.Common.{arith}
use Rattle.grid.proofs.Shapes.{cell_inside}
use Rattle.cover.proofs.Growing.{none, one}
use Rattle.turns.proofs.Grows.{inside, beyond_row, beyond_col}
use Rattle.turns.proofs.pushes.put.Goals as goal

pub overflow_mul-s : goal.overflow_mul-s
overflow_mul-s c = omega (arith, cell_inside _ _ _ _ c.if-row-rows.true c.if-col-cols.true)

pub overflow_add-s : goal.overflow_add-s
overflow_add-s c = omega (arith, cell_inside _ _ _ _ c.if-row-rows.true c.if-col-cols.true)

pub returns-then-row-rows : goal.returns-then-row-rows
returns-then-row-rows c = rw (inside _ _ _ _ c.if-col-cols.true c.if-row-rows.true) (one _ _ _ (omega arith))

pub returns-then-col-cols : goal.returns-then-col-cols
returns-then-col-cols c = rw (beyond_row _ _ _ _ c.if-col-cols.true c.if-row-rows.false) (none (omega arith))

pub returns : goal.returns
returns c = rw (beyond_col _ _ _ _ c.if-col-cols.false) (none (omega arith))
