use Rattle.std.proofs.Common.{rules}
use Rattle.input.proofs.Joined.{taken}
use Rattle.input.proofs.read_input.Goals as goal

pub loop-done-preserved : goal.loop-done-preserved
loop-done-preserved g c =
    let fits = c.in-Ok.ensures.bound.0 in
    (search rules, search rules, taken _ _ _ _ _ _ _ _ c.loop-done.invariant.0 fits c.loop-done.invariant.2 c.in-Ok.ensures.bytes.0)
