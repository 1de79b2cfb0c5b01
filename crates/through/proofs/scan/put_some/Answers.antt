-- `through::scan::put_some` meets its contract. The invariant: the entries before u are done. Assumes nothing.
use native.Mathlib.Omega.{arith}
use mathlib.Core.Path.{refl}
use Rattle.through.proofs.ScanTurns.{put_start, put_more, put_end, put_bit, put_in_first}
use Rattle.through.proofs.scan.put_some.Goals as goal

pub loop-u-init : goal.loop-u-init
loop-u-init c = put_start _ _ _ _ _ _ c.requires

pub overflow_cast-hits : goal.overflow_cast-hits
overflow_cast-hits c = omega (arith, put_bit _ _ _ _ _ _ _ _ _ _ c.loop-u.invariant c.loop-u-test.true)

pub overflow_add-hits : goal.overflow_add-hits
overflow_add-hits c = let l = c.loop-u in omega (arith, put_bit _ _ _ _ _ _ _ _ _ _ l.invariant c.loop-u-test.true, put_in_first _ _ _ _ _ _ _ _ _ _ l.invariant c.loop-u-test.true)

pub loop-u-preserved : goal.loop-u-preserved
loop-u-preserved c = put_more _ _ _ _ _ _ _ _ _ _ c.loop-u.invariant c.loop-u-test.true _ refl

pub returns : goal.returns
returns c = put_end _ _ _ _ _ _ _ _ _ _ c.loop-u.invariant c.loop-u-test.false
