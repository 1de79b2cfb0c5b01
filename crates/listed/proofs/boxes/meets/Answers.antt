-- `listed::boxes::meets` meets its contract. Assumes nothing.
use lib.Ieee.{le}
use Rattle.grid.specs.Boxes.{overlaps}
use Rattle.listed.proofs.BoxLaws.{both_axes}
use Rattle.listed.proofs.boxes.meets.Goals as goal

pub returns : goal.returns
unfolding overlaps
returns c =
    let a = c.args.a in
    let b = c.args.b in
    both_axes (le b.min_x a.max_x) (le a.min_x b.max_x) (le b.min_y a.max_y) (le a.min_y b.max_y)
