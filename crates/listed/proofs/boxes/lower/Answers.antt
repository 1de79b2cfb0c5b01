-- `listed::boxes::lower` meets its contract. Assumes nothing.
use Rattle.listed.proofs.boxes.lower.Goals as goal

pub returns-then-b-a : goal.returns-then-b-a
returns-then-b-a c = rw c.if-b-a.true

pub returns : goal.returns
returns c = rw c.if-b-a.false
