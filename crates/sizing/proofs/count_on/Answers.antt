-- `sizing::count_on` meets its contract. Assumes nothing.
use Rattle.std.proofs.Common.{arith}
use Rattle.sizing.proofs.Steps.{count_ceiling, count_largest}
use Rattle.sizing.proofs.count_on.Goals as goal

pub returns-then-n-le4294967295 : goal.returns-then-n-le4294967295
returns-then-n-le4294967295 c = count_ceiling _ _ _ c.ceiling-n.ensures (omega arith)

pub returns : goal.returns
returns c = count_largest _ _ _ c.ceiling-n.ensures (omega arith)
