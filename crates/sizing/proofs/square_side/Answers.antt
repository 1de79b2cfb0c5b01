-- `sizing::square_side` meets its contract. Assumes nothing.
use Rattle.sizing.proofs.Steps.{square_made}
use Rattle.sizing.proofs.square_side.Goals as goal

pub returns : goal.returns
returns c =
    square_made _ _ c.nearest_u64_to_f64-n.ensures c.area_of.ensures
    c.square_root-target.ensures c.greatest.ensures c.largest_of.ensures
