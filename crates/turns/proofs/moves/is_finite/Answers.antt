-- `turns::moves::is_finite` meets its contract. Assumes nothing.
use Rattle.turns.proofs.Floats.{finite_yes, finite_no}
use Rattle.turns.proofs.moves.is_finite.Goals as goal

pub returns-then-v-top : goal.returns-then-v-top
returns-then-v-top c = finite_yes _ _ c.infinity-top.ensures c.if-v-top.true

pub returns : goal.returns
returns c = finite_no _ _ c.infinity-top.ensures c.if-v-top.false
