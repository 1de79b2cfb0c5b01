-- `grid::checks::check_cell` meets its contract. Assumes nothing.
use Rattle.grid.specs.Domain.{cell_check}
use Rattle.grid.proofs.checks.check_cell.Goals as goal

pub returns : goal.returns
unfolding cell_check
returns c = rw (← c.is_cell.ensures) c.refuse_unless.ensures
