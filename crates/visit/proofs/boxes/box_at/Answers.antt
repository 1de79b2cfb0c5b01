-- `visit::boxes::box_at` meets its contract. Assumes nothing.
use Rattle.grid.specs.Domain.{lines}
use Rattle.visit.proofs.BoxLaws.{in_start_y, in_end_x, in_end_y, box_is}
use Rattle.visit.proofs.boxes.box_at.Goals as goal

pub bounds-start_y-i : goal.bounds-start_y-i
bounds-start_y-i c =
    let a = c.args in
    let ls = lines a.start_x.now a.start_y.now a.end_x.now a.end_y.now in
    in_start_y ls a.line c.requires

pub bounds-end_x-i : goal.bounds-end_x-i
bounds-end_x-i c =
    let a = c.args in
    let ls = lines a.start_x.now a.start_y.now a.end_x.now a.end_y.now in
    in_end_x ls a.line c.requires

pub bounds-end_y-i : goal.bounds-end_y-i
bounds-end_y-i c =
    let a = c.args in
    let ls = lines a.start_x.now a.start_y.now a.end_x.now a.end_y.now in
    in_end_y ls a.line c.requires

pub returns : goal.returns
returns c =
    let a = c.args in
    let ls = lines a.start_x.now a.start_y.now a.end_x.now a.end_y.now in
    box_is ls a.line c.requires _ _ _ _ c.lesser.ensures c.lesser-2.ensures c.greater.ensures c.greater-2.ensures
