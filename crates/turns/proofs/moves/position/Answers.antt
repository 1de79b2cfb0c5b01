-- `turns::moves::position` meets its contract. Assumes nothing.
use Rattle.turns.specs.InsideModular.{position_by}
use Rattle.turns.proofs.moves.position.Goals as goal

pub returns : goal.returns
unfolding position_by
returns c = rw (c.index.ensures, c.first_of.ensures)
