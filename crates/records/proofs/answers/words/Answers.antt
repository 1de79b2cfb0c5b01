-- `records::answers::words` meets its contract. The invariant: the first i words are put. Assumes nothing.
use mathlib.Core.Path.{refl}
use mathlib.Core.List.{[]}
use native.Mathlib.Omega.{arith}
use lib.Seq.{take_all}
use Rattle.records.proofs.Puts.{put_none, put_more, put_length}
use Rattle.records.proofs.answers.words.Goals as goal

pub loop-value-init : goal.loop-value-init
loop-value-init c = put_none _ _ (omega arith)

pub loop-value-preserved : goal.loop-value-preserved
loop-value-preserved c = put_more [] c.args.s.now c.loop-value.invariant c.word-to.ensures refl (omega arith) (omega arith)

pub shape_of-out : goal.shape_of-out
shape_of-out c = put_length c.loop-value.invariant

pub returns : goal.returns
returns c = rw (take_all c.loop-value.value-index c.args.s.now (omega arith)) at c.loop-value.invariant
