-- `once::boxes::greater` meets its contract. Assumes nothing.
use Rattle.once.proofs.boxes.greater.Goals as goal

pub returns-then-a-b : goal.returns-then-a-b
returns-then-a-b c = rw c.if-a-b.true

pub returns : goal.returns
returns c = rw c.if-a-b.false
