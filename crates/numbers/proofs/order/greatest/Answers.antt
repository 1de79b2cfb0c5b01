-- `numbers::order::greatest` meets its contract. Assumes nothing.
use Rattle.numbers.proofs.OrderCases.{greatest_first, greatest_second, greatest_not_number}
use Rattle.numbers.proofs.order.greatest.Goals as goal

pub returns-then-a-b : goal.returns-then-a-b
returns-then-a-b c = greatest_second _ _ c.if-a-b.true

pub returns-then-a : goal.returns-then-a
returns-then-a c = greatest_not_number _ _ c.if-a-b.false c.if-a.true

pub returns : goal.returns
returns c = greatest_first _ _ c.if-a-b.false c.if-a.false
