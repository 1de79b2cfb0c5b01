-- `visit::scan::test_in` meets its contract. Assumes nothing.
use Rattle.std.specs.Prelude.{Some}
use mathlib.Core.Path.{ap, ◌∙◌}
use Prim.Native.Nat.{suc}
use lib.ListN.{drop, drop_of_length-le, get_or}
use lib.Seq.{drop-cons}
use Rattle.slices.proofs.Members.{below_at}
use Rattle.grid.specs.Domain.{lines}
use Rattle.visit.specs.declared.Test.{Test}
use Rattle.visit.proofs.RowTurns.{next_end, next_made}
use Rattle.visit.proofs.scan.test_in.Goals as goal

pub returns-then-list-j : goal.returns-then-list-j
returns-then-list-j c =
    let a = c.args in
    let ls = lines a.start_x.now a.start_y.now a.end_x.now a.end_y.now in
    next_end ls a.row.place a.row.first (drop a.j a.list.now) (drop_of_length-le a.list.now {i = a.j} c.if-list-j.true)

pub test_with-requires : goal.test_with-requires
test_with-requires c =
    let p = c.requires in
    record { row_fits = p.row_fits; one = below_at _ c.args.list.now c.args.j p.below c.if-list-j.false }

pub returns : goal.returns
returns c =
    let a = c.args in
    let ls = lines a.start_x.now a.start_y.now a.end_x.now a.end_y.now in
    ap (λ (t : Test). Some t) c.test_with.ensures ∙ next_made ls a.row.place a.row.first (get_or a.list.now a.j 0) (drop a.j a.list.now) (drop (suc a.j) a.list.now) (drop-cons a.list.now a.j 0 c.if-list-j.false)
