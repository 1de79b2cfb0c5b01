-- `turns::Walk::moved` meets its contract. Assumes nothing.
use Rattle.turns.specs.InsideModular.{advanced_by, moved_by}
use Rattle.turns.proofs.Walk.moved.Goals as goal

pub returns-then-k-2 : goal.returns-then-k-2
unfolding moved_by
returns-then-k-2 c = rw (c.if-k.true, c.if-k-2.true, c.moved.ensures, c.moved-then-k-2.ensures)

pub returns-then-k : goal.returns-then-k
unfolding moved_by advanced_by
returns-then-k c = rw (c.if-k.true, c.if-k-2.false, c.moved-then-k.ensures)

pub returns-then-k-3 : goal.returns-then-k-3
unfolding moved_by advanced_by
returns-then-k-3 c = rw (c.if-k.false, c.if-k-3.true, c.moved-then-k-3.ensures)

pub returns : goal.returns
unfolding moved_by advanced_by
returns c = rw (c.if-k.false, c.if-k-3.false)
