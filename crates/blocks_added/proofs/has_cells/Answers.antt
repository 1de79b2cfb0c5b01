-- `blocks_added::has_cells` meets its contract. Assumes nothing.
use Rattle.blocks_added.proofs.has_cells.Goals as goal

pub returns-then-is_fit : goal.returns-then-is_fit
returns-then-is_fit c = rw (← c.is_fit.ensures, c.if-is_fit.true)

pub returns : goal.returns
returns c = rw (← c.is_fit.ensures, c.if-is_fit.false)
