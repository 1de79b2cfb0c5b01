-- `turns::Position::moved` meets its contract. Assumes nothing.
use Rattle.turns.specs.InsideModular.{advanced_by}
use Rattle.turns.proofs.Position.moved.Goals as goal

pub returns : goal.returns
unfolding advanced_by
returns c = rw c.stepped.ensures
