-- `walk::beside::low_col` meets its contract. Assumes nothing.
use native.Mathlib.Omega.{arith}
use Rattle.cover.proofs.Growing.{none, one}
use Rattle.walk.proofs.Added.{positive, col_none, col_one}
use Rattle.walk.proofs.beside.low_col.Goals as goal

pub returns-then-c-cols-eq0 : goal.returns-then-c-cols-eq0
returns-then-c-cols-eq0 c = rw (col_none _ _ c.if-c-cols-eq0.true) (none (omega arith))

pub overflow_sub-s : goal.overflow_sub-s
overflow_sub-s c = positive _ _ c.if-c-cols-eq0.false

pub returns : goal.returns
returns c = rw (col_one _ _ c.if-c-cols-eq0.false) (one _ _ _ (omega arith))
