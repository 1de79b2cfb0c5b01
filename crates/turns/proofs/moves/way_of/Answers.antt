-- `turns::moves::way_of` meets its contract. Assumes nothing.
use Rattle.turns.specs.InsideModular.{way_by}
use Rattle.turns.proofs.moves.way_of.Goals as goal

pub returns : goal.returns
unfolding way_by
returns c = rw (c.course.ensures, c.course-2.ensures, c.x_axis.ensures, c.y_axis.ensures)
