-- `turns::pushes::put_other` meets its contract. Assumes nothing.
use Rattle.std.proofs.Common.{sym, ◌∙◌, arith}
use Rattle.grid.proofs.Shapes.{cell_inside}
use Rattle.turns.proofs.Grows.{inside, beyond_row, beyond_col, left_out, put_in, nothing_there}
use Rattle.turns.proofs.pushes.put_other.Goals as goal

pub overflow_mul-c : goal.overflow_mul-c
overflow_mul-c c = omega (arith, cell_inside _ _ _ _ c.if-row-rows.true c.if-col-cols.true)

pub overflow_add-c : goal.overflow_add-c
overflow_add-c c = omega (arith, cell_inside _ _ _ _ c.if-row-rows.true c.if-col-cols.true)

pub returns-then-last_is : goal.returns-then-last_is
returns-then-last_is c = left_out (inside _ _ _ _ c.if-col-cols.true c.if-row-rows.true) (omega arith) (sym c.last_is.ensures ∙ c.if-last_is.true)

pub returns-then-row-rows : goal.returns-then-row-rows
returns-then-row-rows c = put_in (inside _ _ _ _ c.if-col-cols.true c.if-row-rows.true) (omega arith) (sym c.last_is.ensures ∙ c.if-last_is.false)

pub returns-then-col-cols : goal.returns-then-col-cols
returns-then-col-cols c = nothing_there (beyond_row _ _ _ _ c.if-col-cols.true c.if-row-rows.false) (omega arith)

pub returns : goal.returns
returns c = nothing_there (beyond_col _ _ _ _ c.if-col-cols.false) (omega arith)
