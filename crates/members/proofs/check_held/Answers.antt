-- `members::check_held` meets its contract. Assumes nothing.
use Rattle.members.specs.Held.{held_check}
use Rattle.members.proofs.check_held.Goals as goal

pub returns : goal.returns
unfolding held_check
returns c = rw (← c.is_held.ensures) c.refuse_unless.ensures
