-- `tables::rising::least_32` meets its contract. Assumes nothing.
use borrow.Author.Tests.{lt-ltb, le-ltb}
use Rattle.tables.proofs.rising.least_32.Goals as goal

pub returns-then-n-lt4294967295 : goal.returns-then-n-lt4294967295
returns-then-n-lt4294967295 c = rw (lt-ltb c.args.n 4294967295 c.if-n-lt4294967295.true)

pub returns : goal.returns
returns c = rw (le-ltb c.args.n 4294967295 c.if-n-lt4294967295.false)
