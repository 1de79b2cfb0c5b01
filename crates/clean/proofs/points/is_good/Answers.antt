-- `clean::points::is_good` meets its contract. Assumes nothing.
use Rattle.clean.specs.Cleaning.{good}
use Rattle.clean.proofs.points.is_good.Goals as goal

pub returns : goal.returns
unfolding good
returns c = rw (← c.from_bits.ensures, ← c.from_bits-2.ensures) c.is_point.ensures
