-- `own::owns_overlap` meets its contract: both axes hold the point, or the cell is (0, 0). Assumes nothing.
use Rattle.own.specs.Own.{owns_overlap}
use Rattle.own.proofs.Tests.{by_axes, by_cell, by_neither}
use Rattle.own.proofs.owns_overlap.Goals as goal

pub returns-then-holds_point : goal.returns-then-holds_point
unfolding owns_overlap
returns-then-holds_point c = by_axes _ _ _ c.holds_point.ensures c.if-holds_point.true

pub returns-then-row-eq0 : goal.returns-then-row-eq0
unfolding owns_overlap
returns-then-row-eq0 c = by_cell _ _ _ _ c.holds_point.ensures c.if-holds_point.false c.if-row-eq0.true

pub returns : goal.returns
unfolding owns_overlap
returns c = by_neither _ _ _ _ c.holds_point.ensures c.if-holds_point.false c.if-row-eq0.false
