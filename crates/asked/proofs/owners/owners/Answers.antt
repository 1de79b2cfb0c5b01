-- `asked::owners::owners` meets its contract. Assumes nothing.
use mathlib.Core.Path.{sym}
use native.Mathlib.Omega.{arith}
use lib.Seq.{length-take-le}
use Rattle.asked.proofs.Lending.{none, also, owners_lent, owners_none}
use Rattle.asked.proofs.owners.owners.Goals as goal

pub returns-then-lent-gt4096 : goal.returns-then-lent-gt4096
returns-then-lent-gt4096 c = none _ (owners_none _ _ c.lent-lent.ensures c.if-lent-gt4096.true)

pub slice_bounds-told-end-2 : goal.slice_bounds-told-end-2
slice_bounds-told-end-2 c = sym (length-take-le _ _ (omega arith))

pub returns : goal.returns
returns c = also c.told.ensures (λ ws. owners_lent _ ws _ c.lent-lent.ensures c.if-lent-gt4096.false)
