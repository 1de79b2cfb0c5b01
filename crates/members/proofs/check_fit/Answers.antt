-- `members::check_fit` meets its contract. Assumes nothing.
use Rattle.members.specs.Writing.{fit_check}
use Rattle.members.proofs.check_fit.Goals as goal

pub returns : goal.returns
unfolding fit_check
returns c = c.refuse_unless.ensures
