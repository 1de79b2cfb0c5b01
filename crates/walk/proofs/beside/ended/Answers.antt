-- `walk::beside::ended` meets its contract. Assumes nothing.
use mathlib.Core.Path.{◌≡◌, sym, ◌∙◌}
use Prim.Native.Nat.{◌*◌}
use native.Mathlib.Omega.{arith}
use borrow.Author.Tests.{eqb-true}
use Rattle.walk.specs.Neighbours.{beside_of, cell_of, endpoint_of}
use Rattle.walk.proofs.Added.{share_le, nothing_beside, cell_within}
use Rattle.cover.proofs.Growing.{none, same}
use Rattle.walk.proofs.beside.ended.Goals as goal

pub returns-then-nothing : goal.returns-then-nothing
unfolding endpoint_of
returns-then-nothing c =
    let added : let a = c.args in beside_of c.neighbour-in_x.result c.neighbour-in_y.result a.grid.cols (a.grid.rows * a.grid.cols) (cell_of a.grid a.x a.y) ≡ endpoint_of a.mode a.grid a.x a.y = rw (c.neighbour-in_x.ensures, c.neighbour-in_y.ensures, c.x_axis.ensures, c.y_axis.ensures) in
    let e = eqb-true _ 0 (sym c.nothing.ensures ∙ c.if-nothing.true) in
    same (sym (nothing_beside _ _ _ _ e _) ∙ added) (none (omega arith))

pub beside-requires : goal.beside-requires
beside-requires c =
    let p = c.requires in
    record { room = omega (arith, p.room, share_le c.neighbour-in_x.result c.neighbour-in_y.result); inside = cell_within _ _ _ _ c.cell.ensures p.shape p.some_columns }

pub returns : goal.returns
unfolding endpoint_of
returns c =
    let added : let a = c.args in beside_of c.neighbour-in_x.result c.neighbour-in_y.result a.grid.cols (a.grid.rows * a.grid.cols) (cell_of a.grid a.x a.y) ≡ endpoint_of a.mode a.grid a.x a.y = rw (c.neighbour-in_x.ensures, c.neighbour-in_y.ensures, c.x_axis.ensures, c.y_axis.ensures) in
    let k = c.cell.ensures in
    same (rw k added) c.beside.ensures
