-- `counts::adding::add_all` meets its contract. Assumes nothing.
use lib.ListN.{length-set}
use native.Mathlib.Omega.{arith}
use Rattle.counts.proofs.AddLaws.{writing_none, writing_sum, writing_more, writing_done}
use Rattle.counts.proofs.adding.add_all.Goals as goal

pub loop-c-init : goal.loop-c-init
loop-c-init c = writing_none _ _ c.requires.0 c.requires.1

pub overflow_add-into : goal.overflow_add-into
overflow_add-into c = record { fits = omega (arith, writing_sum c.loop-c.invariant (omega arith)) }

pub loop-c-preserved : goal.loop-c-preserved
loop-c-preserved c = writing_more c.loop-c.invariant (omega arith)

pub shape_of-into : goal.shape_of-into
shape_of-into c = c.loop-c.invariant.len

pub returns : goal.returns
returns c = writing_done c.loop-c.invariant (omega arith)
