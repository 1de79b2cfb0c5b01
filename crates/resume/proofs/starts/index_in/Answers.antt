-- `resume::starts::index_in` meets its contract. The invariant: the value does not stand before u. Assumes nothing.
use Rattle.resume.proofs.CursorLaws.{seeking_none, seeking_here, seeking_more, seeking_over}
use Rattle.resume.proofs.starts.index_in.Goals as goal

pub loop-u-init : goal.loop-u-init
loop-u-init c = seeking_none _ _

pub returns-then-entry-v : goal.returns-then-entry-v
returns-then-entry-v c = seeking_here _ _ _ c.loop-u.invariant c.loop-u-test.true c.if-entry-v.true

pub loop-u-preserved : goal.loop-u-preserved
loop-u-preserved c = seeking_more _ _ _ c.loop-u.invariant c.loop-u-test.true c.if-entry-v.false

pub returns : goal.returns
returns c = seeking_over _ _ _ c.loop-u.invariant c.loop-u-test.false
