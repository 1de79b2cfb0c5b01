-- `turns::Position::stepped` meets its contract. Assumes nothing.
use Rattle.turns.specs.InsideModular.{stepped_by}
use Rattle.turns.proofs.Position.stepped.Goals as goal

pub returns : goal.returns
unfolding stepped_by
returns c = c.wrapping_add_u32.ensures.value
