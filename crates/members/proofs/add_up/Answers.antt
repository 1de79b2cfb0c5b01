-- `members::add_up` meets its contract. The invariant: the first k lengths were added up, and are right. Assumes nothing.
use mathlib.Core.Path.{◌≡◌, refl, sym, ap, ◌∙◌}
use mathlib.Core.Bool.{true}
use native.Mathlib.Omega.{arith}
use Rattle.members.specs.Held.{is_length}
use Rattle.members.proofs.Held.{length_is}
use Rattle.members.proofs.Along.{summed_none, summed_more, summed_wrong, summed_all}
use Rattle.members.proofs.add_up.Goals as goal

pub loop-n-init : goal.loop-n-init
loop-n-init c = (c.requires, summed_none c.args.lengths.now)

pub overflow_add-sum : goal.overflow_add-sum
overflow_add-sum c =
    let right : is_length c.wide-sum.result ≡ true = ap is_length c.wide-sum.ensures ∙ sym c.is_length.ensures ∙ c.if-not-is_length.false in
    let n = length_is c.wide-sum.result right in
    omega (arith, c.loop-n.invariant.1.few, c.loop-n.invariant.0)

pub loop-n-preserved : goal.loop-n-preserved
loop-n-preserved c =
    let right : is_length c.wide-sum.result ≡ true = ap is_length c.wide-sum.ensures ∙ sym c.is_length.ensures ∙ c.if-not-is_length.false in
    (c.loop-n.invariant.0, summed_more c.loop-n.invariant.1 c.wide-sum.result c.loop-n-test.true c.wide-sum.ensures right)

pub returns-then-not-is_length : goal.returns-then-not-is_length
returns-then-not-is_length c =
    rw (summed_wrong c.loop-n.invariant.1 _ c.loop-n-test.true refl (sym c.is_length.ensures ∙ c.if-not-is_length.true))

pub returns : goal.returns
returns c = let a = summed_all c.loop-n.invariant.1 c.loop-n-test.false in rw (a.0, a.1)
