-- `samples::sides::boxes_overlap` meets its contract. Assumes nothing.
use Rattle.samples.specs.Sharing.{boxes_overlap}
use Rattle.samples.proofs.sides.boxes_overlap.Goals as goal

pub returns : goal.returns
unfolding boxes_overlap
returns c =
    rw (
      c.lesser-a_low_x.ensures,
      c.greater-a_high_x.ensures,
      c.lesser-a_low_y.ensures,
      c.greater-a_high_y.ensures,
      c.lesser-b_low_x.ensures,
      c.greater-b_high_x.ensures,
      c.lesser-b_low_y.ensures,
      c.greater-b_high_y.ensures,
    )
