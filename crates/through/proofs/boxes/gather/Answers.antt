-- `through::boxes::gather` meets its contract. The invariant: the boxes of the entries before u stand there. Assumes nothing.
use borrow.Author.Rules.{rules}
use Rattle.through.proofs.BoxTurns.{gather_start, gather_asks, gather_room, gather_more, gather_end, last_room, gathered}
use Rattle.through.proofs.boxes.gather.Goals as goal

pub loop-u-init : goal.loop-u-init
loop-u-init c = gather_start _ _ _ (search rules)

pub box_at-bounds-requires : goal.box_at-bounds-requires
box_at-bounds-requires c = gather_asks _ _ _ _ _ c.loop-u.invariant c.loop-u-test.true

pub put_box-requires : goal.put_box-requires
put_box-requires c = gather_room _ _ _ _ _ c.loop-u.invariant c.loop-u-test.true

pub loop-u-preserved : goal.loop-u-preserved
loop-u-preserved c = gather_more _ _ _ _ _ c.loop-u.invariant c.loop-u-test.true _ c.box_at-bounds.ensures _ c.put_box.ensures

pub put_box-requires-2 : goal.put_box-requires-2
put_box-requires-2 c = last_room _ _ _ _ c.loop-u.invariant.asks (gather_end _ _ _ _ _ c.loop-u.invariant c.loop-u-test.false)

pub shape_of-room : goal.shape_of-room
shape_of-room c = (gathered _ _ _ _ c.loop-u.invariant.asks (gather_end _ _ _ _ _ c.loop-u.invariant c.loop-u-test.false) _ _ c.inner_of-inner.ensures _ c.put_box-2.ensures).long

pub returns : goal.returns
returns c = gathered _ _ _ _ c.loop-u.invariant.asks (gather_end _ _ _ _ _ c.loop-u.invariant c.loop-u-test.false) _ _ c.inner_of-inner.ensures _ c.put_box-2.ensures
