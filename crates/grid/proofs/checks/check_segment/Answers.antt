-- `grid::checks::check_segment` meets its contract. Assumes nothing.
use Rattle.grid.specs.Domain.{segment_check}
use Rattle.grid.proofs.checks.check_segment.Goals as goal

pub returns : goal.returns
unfolding segment_check
returns c = rw (← c.is_segment.ensures) c.refuse_unless.ensures
