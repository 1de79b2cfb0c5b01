-- `asked::visits::batch` meets its contract. Assumes nothing.
use mathlib.Core.Path.{sym}
use native.Mathlib.Omega.{arith}
use lib.Seq.{length-take-le}
use Rattle.asked.proofs.Lending.{none, also, batch_lent, batch_no_first, batch_no_second}
use Rattle.asked.proofs.visits.batch.Goals as goal

pub returns-then-first_lent-gt4096 : goal.returns-then-first_lent-gt4096
returns-then-first_lent-gt4096 c = none _ (batch_no_first _ c.lent-first_lent.ensures c.if-first_lent-gt4096.true)

pub returns-then-second_lent-gt4096 : goal.returns-then-second_lent-gt4096
returns-then-second_lent-gt4096 c = none _ (batch_no_second _ c.lent-first_lent.ensures c.if-first_lent-gt4096.false c.lent-second_lent.ensures c.if-second_lent-gt4096.true)

pub slice_bounds-batched-end-3 : goal.slice_bounds-batched-end-3
slice_bounds-batched-end-3 c = sym (length-take-le _ _ (omega arith))

pub slice_bounds-batched-end-4 : goal.slice_bounds-batched-end-4
slice_bounds-batched-end-4 c = sym (length-take-le _ _ (omega arith))

pub returns : goal.returns
returns c = also c.batched.ensures (batch_lent _ c.lent-first_lent.ensures c.if-first_lent-gt4096.false c.lent-second_lent.ensures c.if-second_lent-gt4096.false)
