-- `clean_bytes::text::put_member` meets its contract. The invariant: the lines of the first i points are put. Assumes nothing.
use mathlib.Core.Path.{refl, ◌∙◌}
use native.Mathlib.Omega.{arith}
use Rattle.clean_bytes.proofs.Texts.{points_none, points_more, points_all}
use Rattle.clean_bytes.proofs.text.put_member.Goals as goal

pub loop-i-init : goal.loop-i-init
loop-i-init c = (c.requires, refl, points_none _ _ _ _ _)

pub loop-i-preserved : goal.loop-i-preserved
loop-i-preserved c =
    let l = c.loop-i in
    (l.invariant.0, c.put_point-at.auto.out ∙ l.invariant.1, points_more _ _ _ _ l.invariant.0 (omega arith) l.invariant.2 c.put_point-at.ensures)

pub shape_of-out : goal.shape_of-out
shape_of-out c = c.loop-i.invariant.1

pub returns : goal.returns
returns c = points_all _ _ _ _ (omega arith) c.loop-i.invariant.2
