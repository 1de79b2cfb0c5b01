-- `grid::Segment::bounding_box` meets its contract. Assumes nothing.
use Rattle.grid.specs.Boxes.{box_of}
use Rattle.grid.proofs.Segment.bounding_box.Goals as goal

pub returns : goal.returns
unfolding box_of
returns c = rw (c.least.ensures, c.least-2.ensures, c.greatest.ensures, c.greatest-2.ensures)
