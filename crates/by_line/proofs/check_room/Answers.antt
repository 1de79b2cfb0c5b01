-- `by_line::check_room` meets its contract. Assumes nothing.
use mathlib.Core.Path.{◌∙◌}
use Rattle.by_line.proofs.Room.{room_starts, room_listing}
use Rattle.by_line.proofs.check_room.Goals as goal

pub returns-then-starts-lines : goal.returns-then-starts-lines
returns-then-starts-lines c = c.refuse_unless.ensures ∙ room_starts _ _ _ _ c.if-starts-lines.true

pub returns : goal.returns
returns c = c.refuse_unless-2.ensures ∙ room_listing _ _ _ _ c.if-starts-lines.false
