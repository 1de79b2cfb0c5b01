-- `members::lines::clear_lines` meets its contract. Assumes nothing.
use Rattle.wkb.specs.Reading.{nought}
use Rattle.members.specs.Inside.{zero_lines}
use Rattle.members.proofs.Putting.{cleared_all}
use Rattle.members.proofs.Writings.{lines_eq}
use Rattle.members.proofs.lines.clear_lines.Goals as goal

pub returns : goal.returns
unfolding zero_lines
returns c =
    let a = c.args in
    lines_eq _ _ (cleared_all nought a.start_x.now c.zero_from.ensures) (cleared_all nought a.start_y.now c.zero_from-2.ensures)
    (cleared_all nought a.end_x.now c.zero_from-3.ensures) (cleared_all nought a.end_y.now c.zero_from-4.ensures)
