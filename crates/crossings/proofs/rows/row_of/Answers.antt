-- `crossings::rows::row_of` meets its contract. Assumes nothing.
use Rattle.crossings.proofs.rows.row_of.Goals as goal

pub returns : goal.returns
returns c = rw c.line_at-line.ensures
