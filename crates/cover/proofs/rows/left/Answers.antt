-- `cover::rows::left` meets its contract. Assumes nothing.
use native.Mathlib.Omega.{arith}
use Rattle.cover.proofs.Sides.{left_by_left, left_by_right}
use Rattle.cover.proofs.rows.left.Goals as goal

pub returns-then-e : goal.returns-then-e
returns-then-e c = left_by_left _ _ _ (omega arith) c.less.ensures c.larger.ensures

pub returns : goal.returns
returns c = left_by_right _ _ _ (omega arith) c.less-2.ensures c.larger-2.ensures
