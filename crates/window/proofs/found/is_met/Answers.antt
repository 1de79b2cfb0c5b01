-- `window::found::is_met` meets its contract. Assumes nothing.
use Rattle.grid.specs.Domain.{lines}
use Rattle.window.proofs.Those.{met_marked, met_not}
use Rattle.window.proofs.found.is_met.Goals as goal

pub returns-then-marks-i-eq1 : goal.returns-then-marks-i-eq1
returns-then-marks-i-eq1 c =
    let a = c.args in
    let ls = lines a.start_x.now a.start_y.now a.end_x.now a.end_y.now in
    met_marked ls a.window a.marks.now a.i _ _ _ c.if-marks-i-eq1.true c.segment_at.ensures c.bounding_box-bounds.ensures c.overlaps_with.ensures

pub returns : goal.returns
returns c =
    let a = c.args in
    let ls = lines a.start_x.now a.start_y.now a.end_x.now a.end_y.now in
    met_not ls a.window a.marks.now a.i c.if-marks-i-eq1.false
