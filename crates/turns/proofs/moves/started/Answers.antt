-- `turns::moves::started` meets its contract. Assumes nothing.
use Rattle.turns.specs.InsideModular.{start_by}
use Rattle.turns.proofs.moves.started.Goals as goal

pub returns : goal.returns
unfolding start_by
returns c = rw (c.position.ensures, c.position-2.ensures, c.x_axis.ensures, c.y_axis.ensures)
