-- `members::is_held` meets its contract. Assumes nothing.
use borrow.Author.Tests.{le-leb, lt-leb, eq-eqb, ne_eqb}
use Rattle.members.proofs.is_held.Goals as goal

pub returns-then-x-y : goal.returns-then-x-y
returns-then-x-y c = rw (ne_eqb _ _ c.if-x-y.true)

pub returns-then-lengths-gt4294967295 : goal.returns-then-lengths-gt4294967295
returns-then-lengths-gt4294967295 c = rw (eq-eqb _ _ c.if-x-y.false, lt-leb _ _ c.if-lengths-gt4294967295.true)

pub returns : goal.returns
returns c = rw (eq-eqb _ _ c.if-x-y.false, le-leb _ _ c.if-lengths-gt4294967295.false) c.add_up.ensures
