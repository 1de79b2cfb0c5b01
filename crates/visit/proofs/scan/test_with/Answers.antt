-- `visit::scan::test_with` meets its contract. Assumes nothing.
use Rattle.grid.specs.Domain.{lines}
use Rattle.visit.proofs.RowTurns.{row_test}
use Rattle.visit.proofs.scan.test_with.Goals as goal

pub returns : goal.returns
returns c =
    let a = c.args in
    let ls = lines a.start_x.now a.start_y.now a.end_x.now a.end_y.now in
    row_test ls a.row a.second c.requires.row_fits _ _ c.box_at-other.ensures c.overlaps_with-overlap.ensures
