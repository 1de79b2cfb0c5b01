-- `wkb::members::check_pair` meets its contract. Assumes nothing.
use Rattle.wkb.specs.Multi.{pair_check}
use Rattle.wkb.proofs.members.check_pair.Goals as goal

pub returns : goal.returns
unfolding pair_check
returns c = c.refuse_unless.ensures
