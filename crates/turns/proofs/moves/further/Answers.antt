-- `turns::moves::further` meets its contract. Assumes nothing.
use Rattle.std.proofs.Common.{sym, ap, ◌∙◌}
use Rattle.turns.specs.Inside.{plainly}
use Rattle.turns.proofs.Plain.{plain_x, plain_y}
use Rattle.turns.proofs.moves.further.Goals as goal

pub returns-then-is_plain : goal.returns-then-is_plain
returns-then-is_plain c = plain_x _ _ c.if-tx-ty.true (ap (plainly _ _) (sym c.magnitude.ensures) ∙ sym c.is_plain.ensures ∙ c.if-is_plain.true)

pub returns-then-is_plain-2 : goal.returns-then-is_plain-2
returns-then-is_plain-2 c = plain_y _ _ c.if-ty-tx.true (ap (plainly _ _) (sym c.magnitude-then-ty-tx.ensures) ∙ sym c.is_plain-then-ty-tx.ensures ∙ c.if-is_plain-2.true)
