-- `added::checks::is_inside` meets its contract. Assumes nothing.
use Rattle.added.specs.Added.{line_inside}
use Rattle.added.proofs.checks.is_inside.Goals as goal

pub returns : goal.returns
unfolding line_inside
returns c = rw (c.is_point_inside.ensures, c.is_point_inside-2.ensures)
