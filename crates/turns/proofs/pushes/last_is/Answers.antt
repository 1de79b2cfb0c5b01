-- `turns::pushes::last_is` meets its contract. Assumes nothing.
use Rattle.std.proofs.Common.{arith}
use Rattle.turns.proofs.Grows.{last_none, last_one}
use Rattle.turns.proofs.pushes.last_is.Goals as goal

pub returns-then-n-eq0 : goal.returns-then-n-eq0
returns-then-n-eq0 c = last_none _ _ _ (omega arith)

pub returns : goal.returns
returns c = let a = c.args in last_one a.s.now a.n a.c (omega arith)
