-- `window::is_window` meets its contract. Assumes nothing.
use Rattle.window.proofs.is_window.Goals as goal

pub returns : goal.returns
returns c = rw (c.is_point.ensures, c.is_point-2.ensures)
