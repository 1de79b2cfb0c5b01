-- `turns::moves::course` meets its contract. Assumes nothing.
use Rattle.turns.specs.InsideModular.{course_by}
use Rattle.turns.proofs.moves.course.Goals as goal

pub returns : goal.returns
unfolding course_by
returns c = rw (c.step_of.ensures, c.delta_of.ensures, c.index.ensures)
