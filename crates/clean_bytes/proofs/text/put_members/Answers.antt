-- `clean_bytes::text::put_members` meets its contract. The invariant: the lines of the first k members are put. Assumes nothing.
use mathlib.Core.Path.{refl, ◌∙◌}
use native.Mathlib.Omega.{arith}
use Rattle.clean_bytes.proofs.Texts.{members_none, member_fits, members_more, members_all}
use Rattle.clean_bytes.proofs.text.put_members.Goals as goal

pub loop-k-init : goal.loop-k-init
loop-k-init c = (c.requires.1, refl, members_none _ _ _ c.requires.0)

pub put_member-at-requires : goal.put_member-at-requires
put_member-at-requires c = member_fits _ _ c.loop-k.invariant.0 c.loop-k-test.true c.wide-n.ensures c.loop-k.invariant.2

pub overflow_add-from : goal.overflow_add-from
overflow_add-from c =
    let l = c.loop-k in
    let f = member_fits _ _ l.invariant.0 c.loop-k-test.true c.wide-n.ensures l.invariant.2 in
    omega arith

pub loop-k-preserved : goal.loop-k-preserved
loop-k-preserved c =
    let l = c.loop-k in
    (l.invariant.0, c.put_member-at.auto.out ∙ l.invariant.1, members_more _ _ c.loop-k-test.true c.wide-n.ensures l.invariant.2 c.put_member-at.ensures)

pub shape_of-out : goal.shape_of-out
shape_of-out c = c.loop-k.invariant.1

pub returns : goal.returns
returns c = members_all _ _ (omega arith) c.loop-k.invariant.2
