-- `visit::scan::row_of` meets its contract. Assumes nothing.
use Rattle.visit.proofs.scan.row_of.Goals as goal

pub returns : goal.returns
returns c = rw c.box_at-bounds.ensures
