-- `visit::scan::test_before` meets its contract. Assumes nothing.
use Rattle.std.specs.Prelude.{Some}
use mathlib.Core.Path.{ap, ◌∙◌}
use Prim.Native.Nat.{◌-◌}
use Rattle.grid.specs.Domain.{lines}
use Rattle.visit.specs.declared.Test.{Test}
use Rattle.seek.specs.Inside.{numbers}
use Rattle.visit.proofs.RowTurns.{next_end, next_made, numbers_none, numbers_some}
use Rattle.visit.proofs.scan.test_before.Goals as goal

pub returns-then-stop-k : goal.returns-then-stop-k
returns-then-stop-k c =
    let a = c.args in
    let ls = lines a.start_x.now a.start_y.now a.end_x.now a.end_y.now in
    next_end ls a.row.place a.row.first (numbers (a.stop - a.k) a.k) (numbers_none a.stop a.k c.if-stop-k.true)

pub returns : goal.returns
returns c =
    let a = c.args in
    let ls = lines a.start_x.now a.start_y.now a.end_x.now a.end_y.now in
    ap (λ (t : Test). Some t) c.test_with.ensures ∙ next_made ls a.row.place a.row.first a.k _ _ (numbers_some a.stop a.k c.if-stop-k.false)
