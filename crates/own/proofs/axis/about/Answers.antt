-- `own::axis::about` meets its contract: the whole axis, narrowed. Assumes nothing.
use Rattle.std.proofs.Common.{arith}
use Rattle.own.proofs.Halving.{whole_axis}
use Rattle.own.proofs.axis.about.Goals as goal

pub narrowed-there-requires : goal.narrowed-there-requires
narrowed-there-requires c = record { searchable = c.requires.searchable; halved = whole_axis _ _ c.requires.searchable (omega arith) }
