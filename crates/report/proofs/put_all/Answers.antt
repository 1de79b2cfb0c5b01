-- `report::put_all` meets its contract. The invariant: the first i bytes of the text are put. Assumes nothing.
use mathlib.Core.Path.{refl, ◌∙◌}
use native.Mathlib.Omega.{arith}
use Rattle.report.proofs.Putting.{puts_none, puts_more, puts_all}
use Rattle.report.proofs.put_all.Goals as goal

pub loop-b-init : goal.loop-b-init
loop-b-init c = (omega arith, refl, puts_none _)

pub loop-b-preserved : goal.loop-b-preserved
loop-b-preserved c =
    let l = c.loop-b in
    let text = c.args.text.now in (
      omega arith,
      c.put-at.auto.out ∙ l.invariant.1,
      puts_more text l.b-index (omega arith) l.invariant.2 c.put-at.ensures,
    )

pub shape_of-out : goal.shape_of-out
shape_of-out c = c.loop-b.invariant.1

pub returns : goal.returns
returns c = puts_all c.args.text.now c.loop-b.b-index (omega arith) c.loop-b.invariant.2
