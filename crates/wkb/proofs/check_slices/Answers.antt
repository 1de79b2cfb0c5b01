-- `wkb::check_slices` meets its contract. Assumes nothing.
use Rattle.wkb.specs.Reading.{slices_check}
use Rattle.wkb.proofs.check_slices.Goals as goal

pub returns : goal.returns
unfolding slices_check
returns c = c.refuse_unless.ensures
