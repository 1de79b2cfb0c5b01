-- `counts::tables_on` meets its contract. Assumes nothing.
use Rattle.counts.proofs.Entries.{tables_made}
use Rattle.counts.proofs.tables_on.Goals as goal

pub returns : goal.returns
returns c = rw c.tabled_by.ensures (tables_made c.fill_on-filled.ensures)
