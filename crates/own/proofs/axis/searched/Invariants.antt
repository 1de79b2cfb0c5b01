-- `own::axis::searched` meets its contract. The loop's invariant is `Halved`; the measure is what is left between the two ends.
-- Assumes nothing.
use Rattle.std.proofs.Common.{◌-◌}
use Rattle.own.specs.Inside.{HalvedRange}
use Rattle.own.proofs.axis.searched.Given as goal

abbrev pub invariant-loop-low : goal.invariant-loop-low
invariant-loop-low l = HalvedRange l.axis l.p l.low l.high

abbrev pub decreases-loop-low : goal.decreases-loop-low
decreases-loop-low l = l.high - l.low
