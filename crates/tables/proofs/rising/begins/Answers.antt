-- `tables::rising::begins` meets its contract. Assumes nothing.
use Rattle.tables.specs.Inside.{begin_by}
use Rattle.tables.proofs.rising.begins.Goals as goal

pub returns : goal.returns
unfolding begin_by
returns c = rw (c.one_if.ensures, c.less_one-before.ensures, c.begin_of-at.ensures)
