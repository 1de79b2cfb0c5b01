-- `walk::beside::lower` meets its contract. Assumes nothing.
use Rattle.walk.proofs.Added.{positive}
use Rattle.walk.proofs.Spread.{lower_none, lower_one}
use Rattle.walk.proofs.beside.lower.Goals as goal

pub returns-then-c-cols-eq0 : goal.returns-then-c-cols-eq0
returns-then-c-cols-eq0 c = lower_none _ _ c.if-c-cols-eq0.true

pub overflow_sub-result : goal.overflow_sub-result
overflow_sub-result c = positive _ _ c.if-c-cols-eq0.false

pub returns : goal.returns
returns c = lower_one _ _ c.if-c-cols-eq0.false
