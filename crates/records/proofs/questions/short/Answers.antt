-- `records::questions::short` meets its contract. Assumes nothing.
use native.Mathlib.Omega.{arith}
use borrow.Author.Rules.{rules}
use Rattle.records.specs.Questions.{short_at, short_by}
use Rattle.records.proofs.questions.short.Goals as goal

pub overflow_cast-result : goal.overflow_cast-result
unfolding short_at short_by
overflow_cast-result c = search rules

pub returns : goal.returns
unfolding short_at short_by
returns c = omega (arith, c.number.ensures)
