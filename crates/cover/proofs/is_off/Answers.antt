-- `cover::is_off` meets its contract. Assumes nothing.
use mathlib.Core.Path.{sym, ◌∙◌}
use native.Mathlib.Omega.{arith}
use Rattle.cover.proofs.Entry.{on_empty, on_passed, off_failed}
use Rattle.cover.proofs.is_off.Goals as goal

pub returns-then-grid-eq0 : goal.returns-then-grid-eq0
returns-then-grid-eq0 c = on_empty _ _ c.if-grid-eq0.true

pub returns-then-passes : goal.returns-then-passes
returns-then-passes c = on_passed _ _ (sym c.passes.ensures ∙ c.if-passes.true)

pub returns : goal.returns
returns c = off_failed _ _ (omega (arith, c.if-grid-eq0.false)) (sym c.passes.ensures ∙ c.if-passes.false)
