-- `own::axis::settled` meets its contract, by the edges that it asks. Assumes nothing.
use Rattle.std.proofs.Common.{sym, ◌∙◌, true≢false, arith}
use Rattle.own.proofs.Halving.{at_guess}
use Rattle.own.proofs.axis.settled.Goals as goal

pub returns-then-guess-eq0 : goal.returns-then-guess-eq0
returns-then-guess-eq0 c = λ e. absurd (true≢false (sym e))

pub returns-then-axis-guess : goal.returns-then-axis-guess
returns-then-axis-guess c = λ e. absurd (true≢false (sym e))

pub returns-then-p-high_edge : goal.returns-then-p-high_edge
returns-then-p-high_edge c = λ e. absurd (true≢false (sym e))

pub returns : goal.returns
returns c = λ e. at_guess _ _ c.requires _ (omega arith) (omega arith) _ c.high_edge.ensures c.if-p-high_edge.false (sym e ∙ c.owns.ensures)
