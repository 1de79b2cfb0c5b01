-- `grid::checks::check_lengths` meets its contract. Assumes nothing.
use Rattle.grid.specs.Domain.{lengths_check}
use Rattle.grid.proofs.checks.check_lengths.Goals as goal

pub returns : goal.returns
unfolding lengths_check
returns c = rw (← c.all_are.ensures) c.refuse_unless.ensures
