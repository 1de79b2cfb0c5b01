-- `clean::points::is_same` meets its contract. Assumes nothing.
use Rattle.clean.proofs.Parts.{same_by}
use Rattle.clean.proofs.points.is_same.Goals as goal

pub returns : goal.returns
returns c = same_by _ _ c.from_bits.ensures c.from_bits-2.ensures c.from_bits-3.ensures c.from_bits-4.ensures
