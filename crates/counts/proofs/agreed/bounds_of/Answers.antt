-- `counts::agreed::bounds_of` meets its contract. Assumes nothing.
use Rattle.counts.specs.Agreed.{bounds_of}
use Rattle.counts.proofs.agreed.bounds_of.Goals as goal

pub returns : goal.returns
unfolding bounds_of
returns c = rw (c.least-min_x.ensures, c.least-min_y.ensures, c.greatest.ensures, c.greatest-2.ensures)
