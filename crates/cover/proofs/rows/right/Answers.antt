-- `cover::rows::right` meets its contract. Assumes nothing.
use mathlib.Core.Path.{sym, ◌∙◌}
use native.Mathlib.Omega.{arith}
use Rattle.cover.proofs.Sides.{right_by_left, right_going_right}
use Rattle.cover.proofs.rows.right.Goals as goal

pub returns-then-e : goal.returns-then-e
returns-then-e c = right_by_left _ _ _ (omega arith) c.less.ensures c.lesser.ensures

pub returns : goal.returns
returns c = c.lesser-2.ensures ∙ sym (right_going_right _ _ _ (omega arith))
