-- `cost::greater` meets its contract. Assumes nothing.
use borrow.Author.Tests.{le-leb, lt-leb}
use Rattle.cost.proofs.greater.Goals as goal

pub returns-then-a-b : goal.returns-then-a-b
returns-then-a-b c = rw (le-leb _ _ c.if-a-b.true)

pub returns : goal.returns
returns c = rw (lt-leb _ _ c.if-a-b.false)
