-- `added::checks::check_room` meets its contract. Assumes nothing.
use Rattle.refusals.proofs.Answers.{at_exit}
use Rattle.added.proofs.Asking.{room_items, room_globals}
use Rattle.added.proofs.checks.check_room.Goals as goal

pub returns-in_err-refuse_unless : goal.returns-in_err-refuse_unless
returns-in_err-refuse_unless c = at_exit c.from_residual.ensures.1 (room_items _ _ _ _ c.is_room.ensures c.in_err-refuse_unless.ensures)

pub returns : goal.returns
returns c = room_globals _ _ _ _ c.is_room.ensures c.in_ok-refuse_unless.ensures c.refuse_unless-2.ensures
