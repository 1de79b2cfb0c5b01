-- `fill::lent::leave` meets its contract. Assumes nothing.
use mathlib.Core.Path.{sym, ◌∙◌}
use Rattle.refusals.proofs.Leaving.{left_zero, left_same, numbers_clear, numbers_below, numbers_above}
use Rattle.fill.proofs.lent.leave.Goals as goal

pub returns-then-why-lt4 : goal.returns-then-why-lt4
returns-then-why-lt4 c = sym (left_same 0 _ _ (numbers_below _ c.if-why-lt4.true))

pub returns-then-why-gt7 : goal.returns-then-why-gt7
returns-then-why-gt7 c = sym (left_same 0 _ _ (numbers_above _ c.if-why-gt7.true))

pub returns : goal.returns
returns c = c.clear.ensures ∙ sym (left_zero 0 _ _ (numbers_clear _ c.if-why-lt4.false c.if-why-gt7.false))
