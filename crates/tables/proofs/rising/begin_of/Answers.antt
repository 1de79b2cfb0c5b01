-- `tables::rising::begin_of` meets its contract. Assumes nothing.
use borrow.Author.Tests.{lt-ltb, le-ltb}
use Rattle.tables.proofs.rising.begin_of.Goals as goal

pub returns-then-from-to : goal.returns-then-from-to
returns-then-from-to c = rw (lt-ltb c.args.from c.args.to c.if-from-to.true)

pub returns : goal.returns
returns c = rw (le-ltb c.args.from c.args.to c.if-from-to.false)
