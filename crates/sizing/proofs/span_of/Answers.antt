-- `sizing::span_of` meets its contract. The invariant: the bounds so far are those of the first i lines. Assumes nothing.
use Rattle.std.proofs.Common.{arith}
use Rattle.sizing.proofs.Steps.{lowest_none, highest_none, lowest_more, highest_more, all_lines}
use Rattle.sizing.proofs.span_of.Goals as goal

pub loop-i-init : goal.loop-i-init
loop-i-init c = (omega arith, omega arith, omega arith, lowest_none _ _, highest_none _ _)

pub loop-i-preserved : goal.loop-i-preserved
loop-i-preserved c =
    let at = c.loop-i in (
      omega arith,
      omega arith,
      omega arith,
      lowest_more _ _ _ at.invariant.3 c.least.ensures c.least-low.ensures,
      highest_more _ _ _ at.invariant.4 c.greatest.ensures c.greatest-high.ensures,
    )

pub returns : goal.returns
returns c = let at = c.loop-i in all_lines _ _ _ _ (omega arith) (omega arith) at.invariant.3 at.invariant.4
