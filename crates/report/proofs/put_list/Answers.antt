-- `report::put_list` meets its contract. The invariant: the first i numbers of the list are put. Assumes nothing.
use mathlib.Core.Path.{refl, ◌∙◌}
use native.Mathlib.Omega.{arith}
use Rattle.report.proofs.Putting.{spaced_start, spaced_more, spaced_all}
use Rattle.report.proofs.put_list.Goals as goal

pub loop-line-init : goal.loop-line-init
loop-line-init c = (omega arith, refl, spaced_start _)

pub loop-line-preserved : goal.loop-line-preserved
loop-line-preserved c =
    let l = c.loop-line in
    let list = c.args.list.now in (
      omega arith,
      c.put_number-at.auto.out ∙ l.invariant.1,
      spaced_more list l.line-index (omega arith) l.invariant.2 c.from.ensures c.put_number-at.ensures,
    )

pub shape_of-out : goal.shape_of-out
shape_of-out c = c.loop-line.invariant.1

pub returns : goal.returns
returns c = spaced_all c.args.list.now c.loop-line.line-index (omega arith) c.loop-line.invariant.2
