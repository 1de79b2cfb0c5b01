-- `samples::line_at` meets its contract. Assumes nothing.
use Rattle.samples.proofs.line_at.Goals as goal

pub returns : goal.returns
returns c = rw (c.entry.ensures, c.entry-2.ensures, c.entry-3.ensures, c.entry-4.ensures)
