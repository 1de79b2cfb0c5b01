-- `by_line::first::is_first` meets its contract. Assumes nothing.
use borrow.Author.Tests.{lt-ltb, le-ltb}
use Rattle.by_line.specs.First.{first_by}
use Rattle.by_line.proofs.first.is_first.Goals as goal

pub returns-then-common-sure : goal.returns-then-common-sure
unfolding first_by
returns-then-common-sure c = rw (lt-ltb _ _ c.if-common-sure.true)

pub returns-then-met_before : goal.returns-then-met_before
unfolding first_by
returns-then-met_before c = rw (le-ltb _ _ c.if-common-sure.false, ← c.met_before.ensures, c.if-met_before.true)

pub returns : goal.returns
unfolding first_by
returns c = rw (le-ltb _ _ c.if-common-sure.false, ← c.met_before.ensures, c.if-met_before.false)
