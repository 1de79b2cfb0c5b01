-- `tables::is_increasing` meets its contract. Assumes nothing.
use mathlib.Core.Path.{sym, ap, ◌∙◌}
use mathlib.Core.Bool.{◌&&◌}
use Prim.Native.Nat.{ℕ}
use lib.Dec.{ltb}
use Rattle.tables.proofs.Climbing.{none_increase}
use Rattle.tables.proofs.is_increasing.Goals as goal

pub returns-then-list-eq0 : goal.returns-then-list-eq0
returns-then-list-eq0 c = none_increase _ _ c.if-list-eq0.true

pub returns : goal.returns
returns c =
    let a = c.args in
    ap (λ (v : ℕ). c.rises.result && ltb v a.lines) c.wide-last.ensures ∙ sym (c.rises.ensures a.lines)
