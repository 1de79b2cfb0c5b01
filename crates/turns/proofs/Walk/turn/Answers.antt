-- `turns::Walk::turn` meets its contract. Assumes nothing.
use Rattle.turns.specs.InsideModular.{turn_by}
use Rattle.turns.proofs.Walk.turn.Goals as goal

pub returns-then-arrived : goal.returns-then-arrived
unfolding turn_by
returns-then-arrived c = rw (← c.arrived.ensures, c.if-arrived.true)

pub returns : goal.returns
unfolding turn_by
returns c = rw (← c.arrived.ensures, c.if-arrived.false) c.further.ensures
