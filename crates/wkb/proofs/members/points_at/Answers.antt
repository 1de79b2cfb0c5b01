-- `wkb::members::points_at` meets its contract. Assumes nothing.
use Rattle.wkb.proofs.Fields.{counted_at}
use Rattle.wkb.proofs.members.points_at.Goals as goal

pub returns : goal.returns
returns c = counted_at _ _ _ c.requires.1 c.number_at_4.ensures.0
