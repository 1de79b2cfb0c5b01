-- `turns::Turn::goes` meets its contract. Assumes nothing.
use Rattle.turns.specs.Turns.{goes_of}
use Rattle.turns.proofs.Turn.goes.Goals as goal

pub returns-then-self : goal.returns-then-self
unfolding goes_of
returns-then-self c = rw c.if-self.true

pub returns : goal.returns
unfolding goes_of
returns c = rw c.if-self.false
