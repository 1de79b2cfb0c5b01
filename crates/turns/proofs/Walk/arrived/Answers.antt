-- `turns::Walk::arrived` meets its contract. Assumes nothing.
use Rattle.std.proofs.Common.{eq-eqb, ne_eqb}
use Rattle.turns.specs.InsideModular.{arrived_by}
use Rattle.turns.proofs.Walk.arrived.Goals as goal

pub returns-then-self-way : goal.returns-then-self-way
unfolding arrived_by
returns-then-self-way c = rw (eq-eqb _ _ c.if-self-way.true)

pub returns : goal.returns
unfolding arrived_by
returns c = rw (ne_eqb _ _ c.if-self-way.false)
