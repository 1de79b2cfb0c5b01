-- `added::offsets::raise` meets its contract. Assumes nothing.
use Rattle.added.proofs.Parts.{raising_none, raising_fits, raising_more, raising_done}
use Rattle.added.proofs.offsets.raise.Goals as goal

pub loop-i-init : goal.loop-i-init
loop-i-init c = raising_none c.requires

pub overflow_add-offsets : goal.overflow_add-offsets
overflow_add-offsets c = record { fits = raising_fits c.loop-i.invariant c.loop-i-test.true }

pub loop-i-preserved : goal.loop-i-preserved
loop-i-preserved c = raising_more c.loop-i.invariant c.loop-i-test.true

pub shape_of-offsets : goal.shape_of-offsets
shape_of-offsets c = c.loop-i.invariant.len

pub returns : goal.returns
returns c = raising_done c.loop-i.invariant c.loop-i-test.false
