-- `samples::raise` meets its contract. Assumes nothing.
use mathlib.Core.Path.{sym}
use mir.Facts.{to_z-of_z}
use Rattle.samples.proofs.Raising.{raised_none, below_none, above_none, between_sample, sum_fits, sum_cast, sum_raised}
use Rattle.samples.proofs.raise.Goals as goal

pub returns-then-v-ltminus536870912 : goal.returns-then-v-ltminus536870912
returns-then-v-ltminus536870912 c = sym (raised_none c.args.v (below_none c.args.v (rw (to_z-of_z c.ranges.v) at c.if-v-ltminus536870912.true)))

pub returns-then-v-gt536870912 : goal.returns-then-v-gt536870912
returns-then-v-gt536870912 c = sym (raised_none c.args.v (above_none c.args.v (rw (to_z-of_z c.ranges.v) at c.if-v-gt536870912.true)))

pub overflow_add-result : goal.overflow_add-result
overflow_add-result c = sum_fits c.args.v c.ranges.v (between_sample c.args.v (rw (to_z-of_z c.ranges.v) at c.if-v-ltminus536870912.false) (rw (to_z-of_z c.ranges.v) at c.if-v-gt536870912.false))

pub overflow_cast-result : goal.overflow_cast-result
overflow_cast-result c = sum_cast c.args.v c.ranges.v (between_sample c.args.v (rw (to_z-of_z c.ranges.v) at c.if-v-ltminus536870912.false) (rw (to_z-of_z c.ranges.v) at c.if-v-gt536870912.false))

pub returns : goal.returns
returns c = sum_raised c.args.v c.ranges.v (between_sample c.args.v (rw (to_z-of_z c.ranges.v) at c.if-v-ltminus536870912.false) (rw (to_z-of_z c.ranges.v) at c.if-v-gt536870912.false))
