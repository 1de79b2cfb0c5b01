-- `clean::check_outputs` meets its contract. Assumes nothing.
use Rattle.clean.specs.Calls.{kept_room_check}
use Rattle.clean.proofs.check_outputs.Goals as goal

pub returns : goal.returns
unfolding kept_room_check
returns c = rw (← c.has_room.ensures) c.refuse_unless.ensures
