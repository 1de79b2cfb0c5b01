use Rattle.grid.proofs.Fine.{looked_none, looked_more, looked_over}
use Rattle.grid.proofs.checks.all_obey.Goals as goal

pub loop-i-init : goal.loop-i-init
loop-i-init c = looked_none _ c.requires

pub loop-i-preserved : goal.loop-i-preserved
loop-i-preserved c = looked_more c.loop-i.invariant c.loop-i-test.true _ _ _ _ c.is_coordinate.ensures c.is_coordinate-in-loop-i.ensures c.is_coordinate-in-loop-i-2.ensures c.is_coordinate-in-loop-i-3.ensures

pub returns : goal.returns
returns c = looked_over c.loop-i.invariant c.loop-i-test.false
