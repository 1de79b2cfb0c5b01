-- `walk::beside::cell` meets its contract. Assumes nothing.
use mathlib.Core.Path.{ap}
use Prim.Native.Nat.{◌<◌}
use native.Mathlib.Omega.{arith}
use Rattle.grid.specs.declared.Axis.{Axis}
use Rattle.grid.proofs.Shapes.{cell_inside}
use Rattle.walk.specs.Neighbours.{cell_of}
use Rattle.turns.proofs.Floats.{index_le}
use Rattle.walk.proofs.beside.cell.Goals as goal

pub overflow_mul-result : goal.overflow_mul-result
overflow_mul-result c = let p = c.requires in let i : c.index.result < c.args.grid.rows = omega (arith, c.index.ensures, index_le c.y_axis.result c.args.y, ap (λ (a : Axis). a.count) c.y_axis.ensures, p.shape.alike p.some_columns) in omega (arith, cell_inside _ _ _ 0 i p.some_columns, p.shape.cells)

pub overflow_add-result : goal.overflow_add-result
overflow_add-result c = let p = c.requires in let i : c.index.result < c.args.grid.rows = omega (arith, c.index.ensures, index_le c.y_axis.result c.args.y, ap (λ (a : Axis). a.count) c.y_axis.ensures, p.shape.alike p.some_columns) in let j : c.index-2.result < c.args.grid.cols = omega (arith, c.index-2.ensures, index_le c.x_axis.result c.args.x, ap (λ (a : Axis). a.count) c.x_axis.ensures, p.some_columns) in omega (arith, cell_inside _ _ _ _ i j, p.shape.cells)

pub returns : goal.returns
unfolding cell_of
returns c = rw (c.index.ensures, c.index-2.ensures, c.y_axis.ensures, c.x_axis.ensures)
