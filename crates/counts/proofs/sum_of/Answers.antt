-- `counts::sum_of` meets its contract. Assumes nothing.
use native.Mathlib.Omega.{arith}
use Rattle.counts.proofs.Lists.{summing_none, summing_fits, summing_more, summing_done}
use Rattle.counts.proofs.sum_of.Goals as goal

pub loop-c-init : goal.loop-c-init
loop-c-init c = summing_none c.requires.0 c.requires.1

pub overflow_add-total : goal.overflow_add-total
overflow_add-total c = record { fits = omega (arith, c.wide-total.ensures, summing_fits c.loop-c.invariant (omega arith)) }

pub loop-c-preserved : goal.loop-c-preserved
loop-c-preserved c = rw c.wide-total.ensures (summing_more c.loop-c.invariant (omega arith))

pub returns : goal.returns
returns c = summing_done c.loop-c.invariant (omega arith)
