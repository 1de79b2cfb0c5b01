-- `added::checks::is_point_inside` meets its contract. Assumes nothing.
use Rattle.added.specs.Added.{point_inside}
use Rattle.added.proofs.checks.is_point_inside.Goals as goal

pub returns : goal.returns
unfolding point_inside
returns c = rw (c.is_on.ensures, c.x_axis.ensures, c.is_on-2.ensures, c.y_axis.ensures)
