-- `cover::runs::put_each` meets its contract. Assumes nothing.
use native.Mathlib.Omega.{arith}
use Rattle.cover.proofs.Growing.{running_start, running_more, running_done}
use Rattle.cover.proofs.runs.put_each.Goals as goal

pub loop-i-init : goal.loop-i-init
loop-i-init c = running_start _ _ _ _ c.requires.room c.requires.numbers_fit

pub loop-i-preserved : goal.loop-i-preserved
loop-i-preserved c = running_more c.loop-i.invariant (omega arith)

pub shape_of-scratch : goal.shape_of-scratch
shape_of-scratch c = c.loop-i.invariant.grown.len

pub returns : goal.returns
returns c = running_done c.loop-i.invariant (omega arith)
