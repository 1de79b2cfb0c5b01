-- `turns::moves::step_of` meets its contract. Assumes nothing.
use lib.Ieee.{of_bits}
use Rattle.turns.specs.InsideModular.{step_by}
use Rattle.turns.proofs.moves.step_of.Goals as goal

pub returns-then-d : goal.returns-then-d
unfolding step_by of_bits
returns-then-d c = rw c.if-d.true

pub returns-then-d-2 : goal.returns-then-d-2
unfolding step_by of_bits
returns-then-d-2 c = rw (c.if-d.false, c.if-d-2.true)

pub returns : goal.returns
unfolding step_by of_bits
returns c = rw (c.if-d.false, c.if-d-2.false)
