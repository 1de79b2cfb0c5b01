-- `by_line::sums::running_sums` meets its contract. Assumes nothing.
use lib.ListN.{length-set}
use Rattle.fill.proofs.Sums.{summing_none, summing_fits, summing_more, summing_done}
use Rattle.by_line.proofs.sums.running_sums.Goals as goal

pub loop-i-init : goal.loop-i-init
loop-i-init c = summing_none _ _ c.requires.0 c.requires.1

pub overflow_add-total : goal.overflow_add-total
overflow_add-total c = record { fits = summing_fits c.loop-i.invariant c.loop-i-test.true }

pub loop-i-preserved : goal.loop-i-preserved
loop-i-preserved c = summing_more c.loop-i.invariant c.loop-i-test.true

pub shape_of-starts : goal.shape_of-starts
shape_of-starts c = simp length-set c.loop-i.invariant.len

pub returns : goal.returns
returns c = summing_done c.loop-i.invariant c.loop-i-test.false
