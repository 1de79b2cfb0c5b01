-- `listed::boxes::box_of` meets its contract. Assumes nothing.
use Rattle.listed.proofs.BoxLaws.{box_is, box_plain}
use Rattle.listed.proofs.boxes.box_of.Goals as goal

pub returns-then-x0-y0 : goal.returns-then-x0-y0
returns-then-x0-y0 c = box_plain _ _ _ _ _ _ _ _ c.if-x0-y0.true c.lower.ensures c.lower-2.ensures c.higher.ensures c.higher-2.ensures

pub returns : goal.returns
returns c = box_is _ _ _ _ _ _ _ _ c.least.ensures c.least-2.ensures c.greatest.ensures c.greatest-2.ensures
