-- `records::answers::written` meets its contract. The invariant: after the number of entries, the first of them are put. Assumes nothing.
use mathlib.Core.Path.{refl, ◌∙◌}
use mathlib.Core.List.{[]}
use native.Mathlib.Omega.{arith}
use lib.ListN.{take}
use lib.Seq.{take_all}
use Rattle.records.proofs.Puts.{put_none, put_more, put_then, put_length, lent_words_lem}
use Rattle.records.proofs.answers.written.Goals as goal

pub loop-value-init : goal.loop-value-init
loop-value-init c = put_none _ _ (omega arith)

pub loop-value-preserved : goal.loop-value-preserved
loop-value-preserved c = put_more [] (take c.listed-n.result c.args.s.now) c.loop-value.invariant c.word-to-in-loop-value.ensures refl (omega arith) (omega arith)

pub shape_of-answer : goal.shape_of-answer
shape_of-answer c = put_length c.loop-value.invariant ∙ put_length c.word-to.ensures

pub returns : goal.returns
returns c =
    let n = c.listed-n in
    let all = take_all c.loop-value.value-index (take n.result c.args.s.now) (omega arith) in
    rw (all, lent_words_lem c.args.s.now n.result n.ensures.0 (omega arith)) at (put_then c.word-to.ensures c.loop-value.invariant (omega arith))
