-- `wkb::members::check_room` meets its contract: the points come first. Assumes nothing.
use borrow.Author.Tests.{le-leb, lt-leb}
use Rattle.refusals.specs.Refusals.{unless, and_then}
use Rattle.wkb.specs.Multi.{members_room_check}
use Rattle.wkb.proofs.members.check_room.Goals as goal

pub returns-then-points-p : goal.returns-then-points-p
unfolding members_room_check unless and_then
returns-then-points-p c = rw (lt-leb _ _ c.if-points-p.true)

pub returns : goal.returns
unfolding members_room_check unless and_then
returns c = rw (le-leb _ _ c.if-points-p.false) c.refuse_unless.ensures
