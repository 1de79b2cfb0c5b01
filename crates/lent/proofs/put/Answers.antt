-- `lent::put` meets its contract. Assumes nothing.
use mathlib.Core.Path.{sym}
use lib.Seq.{set_out}
use Rattle.lent.proofs.put.Goals as goal

pub returns-then-s-at : goal.returns-then-s-at
returns-then-s-at c = sym (set_out _ _ _ c.if-s-at.true)
