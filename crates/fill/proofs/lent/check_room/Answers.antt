-- `fill::lent::check_room` meets its contract. Assumes nothing.
use Rattle.fill.proofs.Counts.{room_short, room_fine}
use Rattle.fill.proofs.lent.check_room.Goals as goal

pub returns-then-room-asked : goal.returns-then-room-asked
returns-then-room-asked c = room_short _ _ _ c.cell_count-asked.ensures.0 c.if-room-asked.true

pub returns : goal.returns
returns c = room_fine _ _ _ c.cell_count-asked.ensures.0 c.if-room-asked.false
