-- `refusals::refuse_unless` meets its contract. Assumes nothing.
use Rattle.refusals.specs.Refusals.{unless}
use Rattle.refusals.proofs.refuse_unless.Goals as goal

pub returns-then-ok : goal.returns-then-ok
unfolding unless
returns-then-ok c = rw c.if-ok.true

pub returns : goal.returns
unfolding unless
returns c = rw c.if-ok.false
