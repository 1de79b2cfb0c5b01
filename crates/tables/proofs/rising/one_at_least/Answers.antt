-- `tables::rising::one_at_least` meets its contract. Assumes nothing.
use mathlib.Core.Path.{sym}
use native.Mathlib.Omega.{arith}
use Rattle.tables.proofs.Breaks.{one_some, one_none}
use Rattle.tables.proofs.rising.one_at_least.Goals as goal

pub returns-then-n-eq0 : goal.returns-then-n-eq0
returns-then-n-eq0 c = sym (one_none _ c.if-n-eq0.true)

pub returns : goal.returns
returns c = sym (one_some _ (omega (arith, c.if-n-eq0.false)))
