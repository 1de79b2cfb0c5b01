-- `walk::beside::up_col` meets its contract. Assumes nothing.
use native.Mathlib.Nat.{mod-lt}
use native.Mathlib.Omega.{arith}
use Rattle.cover.proofs.Growing.{none, one}
use Rattle.walk.proofs.Added.{up_col_none, up_col_one}
use Rattle.walk.proofs.beside.up_col.Goals as goal

pub overflow_add-c : goal.overflow_add-c
overflow_add-c c = let w = c.requires.inside in omega (arith, w.wide, mod-lt c.args.c w.some)

pub returns-then-c-cols : goal.returns-then-c-cols
returns-then-c-cols c = rw (up_col_one _ _ c.if-c-cols.true) (one _ _ _ (omega arith))

pub returns : goal.returns
returns c = rw (up_col_none _ _ c.if-c-cols.false) (none (omega arith))
