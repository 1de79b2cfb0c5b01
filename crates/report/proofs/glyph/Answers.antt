-- `report::glyph` meets its contract. Assumes nothing.
use borrow.Author.Tests.{lt-ltb, le-ltb}
use Rattle.report.specs.Numbers.{glyph}
use Rattle.report.proofs.glyph.Goals as goal

pub returns-then-d-lt10 : goal.returns-then-d-lt10
unfolding glyph
returns-then-d-lt10 c = rw (lt-ltb _ 10 c.if-d-lt10.true)

pub returns : goal.returns
unfolding glyph
returns c = rw (le-ltb _ 10 c.if-d-lt10.false)
