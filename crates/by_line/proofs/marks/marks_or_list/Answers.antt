-- `by_line::marks::marks_or_list` meets its contract. Assumes nothing.
use borrow.Author.Tests.{eq-eqb, ne_eqb}
use Rattle.by_line.proofs.marks.marks_or_list.Goals as goal

pub returns-then-sure-eq0 : goal.returns-then-sure-eq0
returns-then-sure-eq0 c = rw (eq-eqb _ _ c.if-sure-eq0.true)

pub returns : goal.returns
returns c = rw (ne_eqb _ _ c.if-sure-eq0.false)
