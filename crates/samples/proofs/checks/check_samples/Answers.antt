-- `samples::checks::check_samples` meets its contract. Assumes nothing.
use mathlib.Core.Path.{sym, ap, ◌∙◌}
use borrow.Author.Tests.{not-true, not-false}
use native.Mathlib.Omega.{arith}
use Rattle.samples.specs.Samples.{sampled}
use Rattle.samples.proofs.Checking.{searched_none, searched_more, searched_bad, searched_over}
use Rattle.samples.proofs.checks.check_samples.Goals as goal

pub loop-i-init : goal.loop-i-init
loop-i-init c = searched_none _

pub returns-then-not-is_sampled : goal.returns-then-not-is_sampled
returns-then-not-is_sampled c = searched_bad c.loop-i.invariant (omega arith) (ap sampled (sym c.line_at.ensures) ∙ sym c.is_sampled.ensures ∙ not-true _ c.if-not-is_sampled.true-raw)

pub loop-i-preserved : goal.loop-i-preserved
loop-i-preserved c = searched_more c.loop-i.invariant (omega arith) (ap sampled (sym c.line_at.ensures) ∙ sym c.is_sampled.ensures ∙ not-false _ c.if-not-is_sampled.false-raw)

pub returns : goal.returns
returns c = searched_over c.loop-i.invariant (omega arith)
