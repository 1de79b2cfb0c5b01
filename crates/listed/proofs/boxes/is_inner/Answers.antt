-- `listed::boxes::is_inner` meets its contract. The invariant: the box is within those before u, where all of them held. Assumes nothing.
use borrow.Author.Rules.{rules}
use Rattle.listed.proofs.BoxLaws.{inner_start, inner_more, inner_end}
use Rattle.listed.proofs.boxes.is_inner.Goals as goal

pub loop-u-init : goal.loop-u-init
loop-u-init c = inner_start _ _ _ (search rules)

pub loop-u-preserved : goal.loop-u-preserved
loop-u-preserved c = inner_more _ _ _ _ _ _ _ _ _ c.loop-u.invariant c.loop-u-test.true

pub returns : goal.returns
returns c = inner_end _ _ _ _ _ _ _ _ _ c.loop-u.invariant c.loop-u-test.false
