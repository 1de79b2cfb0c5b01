-- `once::boxes::gather` meets its contract. The invariant: the boxes of the entries before u stand there. Assumes nothing.
use Rattle.once.proofs.Boxed.{gather_begin, gather_line, gather_room, gather_more, gather_end}
use Rattle.once.proofs.boxes.gather.Goals as goal

pub loop-u-init : goal.loop-u-init
loop-u-init c = let h = c.requires in gather_begin h.fine h.asks

pub box_at-bounds-requires : goal.box_at-bounds-requires
box_at-bounds-requires c = gather_line c.loop-u.invariant c.loop-u-test.true

pub put_box-requires : goal.put_box-requires
put_box-requires c = gather_room c.loop-u.invariant c.loop-u-test.true

pub loop-u-preserved : goal.loop-u-preserved
loop-u-preserved c = gather_more c.loop-u.invariant c.loop-u-test.true c.box_at-bounds.ensures c.put_box.ensures

pub shape_of-room : goal.shape_of-room
shape_of-room c = c.loop-u.invariant.long

pub returns : goal.returns
returns c = gather_end c.loop-u.invariant c.loop-u-test.false
