-- `records::questions::all_floats` meets its contract. The invariant: the first i entries are the words' floats. Assumes nothing.
use native.Mathlib.Omega.{arith}
use lib.ListN.{length-replicate}
use lib.Ieee.{Float, binary64, of_bits}
use Rattle.records.specs.Questions.{float_by, float_at}
use Rattle.records.proofs.Parts.{filled_none, filled_more, filled_all}
use Rattle.records.proofs.questions.all_floats.Goals as goal

pub loop-i-init : goal.loop-i-init
unfolding float_at
loop-i-init c = filled_none float_by _ _ _ (length-replicate {A = Float} 16384 (of_bits binary64 0))

pub offset_bounds-out-i : goal.offset_bounds-out-i
unfolding float_at
offset_bounds-out-i c = omega arith

pub bounds-out-i : goal.bounds-out-i
unfolding float_at
bounds-out-i c = omega arith

pub loop-i-preserved : goal.loop-i-preserved
unfolding float_at
loop-i-preserved c = filled_more float_by c.loop-i.invariant (omega arith) c.float.ensures

pub returns : goal.returns
unfolding float_at
returns c = filled_all float_by c.loop-i.invariant (omega arith)
