-- `numbers::order::least` meets its contract. Assumes nothing.
use Rattle.numbers.proofs.OrderCases.{least_first, least_second, least_not_number}
use Rattle.numbers.proofs.order.least.Goals as goal

pub returns-then-b-a : goal.returns-then-b-a
returns-then-b-a c = least_second _ _ c.if-b-a.true

pub returns-then-a : goal.returns-then-a
returns-then-a c = least_not_number _ _ c.if-b-a.false c.if-a.true

pub returns : goal.returns
returns c = least_first _ _ c.if-b-a.false c.if-a.false
