-- `fill::offsets::running_sums` meets its contract. Assumes nothing.
use lib.ListN.{length-set}
use Rattle.fill.proofs.Sums.{summing_none, summing_fits, summing_more, above_none, sums_crowded, sums_pass, sums_end}
use Rattle.fill.proofs.offsets.running_sums.Goals as goal

pub loop-c-init : goal.loop-c-init
loop-c-init c = (summing_none _ _ c.requires.0 c.requires.1, above_none _ _)

pub shape_of-offsets-then-most-count : goal.shape_of-offsets-then-most-count
shape_of-offsets-then-most-count c = c.loop-c.invariant.0.len

pub returns-then-most-count : goal.returns-then-most-count
returns-then-most-count c = let k = c.loop-c.invariant in sums_crowded c.args.most k.0 k.1 c.loop-c-test.true c.if-most-count.true

pub overflow_add-total : goal.overflow_add-total
overflow_add-total c = record { fits = summing_fits c.loop-c.invariant.0 c.loop-c-test.true }

pub loop-c-preserved : goal.loop-c-preserved
loop-c-preserved c = let k = c.loop-c.invariant in (summing_more k.0 c.loop-c-test.true, sums_pass c.args.most k.0 k.1 c.if-most-count.false)

pub shape_of-offsets : goal.shape_of-offsets
shape_of-offsets c = simp length-set c.loop-c.invariant.0.len

pub returns : goal.returns
returns c = let k = c.loop-c.invariant in sums_end c.args.most k.0 k.1 c.loop-c-test.false
