-- `asked::lines::walk` meets its contract. Assumes nothing.
use mathlib.Core.Path.{sym}
use native.Mathlib.Omega.{arith}
use lib.Seq.{length-take-le}
use Rattle.asked.proofs.Lending.{none, also, walk_lent, walk_none}
use Rattle.asked.proofs.lines.walk.Goals as goal

pub returns-then-lent-gt16384 : goal.returns-then-lent-gt16384
returns-then-lent-gt16384 c = none _ (walk_none _ _ c.lent-lent.ensures c.if-lent-gt16384.true)

pub slice_bounds-walked-end : goal.slice_bounds-walked-end
slice_bounds-walked-end c = sym (length-take-le _ _ (omega arith))

pub returns : goal.returns
returns c = also c.walked.ensures (λ ws. walk_lent _ ws _ c.lent-lent.ensures c.if-lent-gt16384.false)
