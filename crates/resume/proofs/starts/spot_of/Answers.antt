-- `resume::starts::spot_of` meets its contract. Assumes nothing.
use native.Mathlib.Omega.{arith}
use Prim.Native.Nat.{◌*◌}
use lib.ListN.{length}
use Rattle.grid.proofs.Shapes.{wide_product}
use Rattle.tables.specs.Tables.{tables}
use Rattle.resume.proofs.CursorLaws.{reach_here, reach_most, spot_fits, spot_in, spotted_cell, spotted_global}
use Rattle.resume.proofs.starts.spot_of.Goals as goal

pub overflow_mul-cell : goal.overflow_mul-cell
overflow_mul-cell c = record { fits = wide_product c.wide.result c.wide-in-Cell.result (omega arith) (omega arith) }

pub overflow_add-cell : goal.overflow_add-cell
overflow_add-cell c = record { fits = spot_fits c.wide.result c.wide-in-Cell.result c.wide-in-Cell-2.result (omega arith) (omega arith) (omega arith) }

pub overflow_mul-cells : goal.overflow_mul-cells
overflow_mul-cells c = record { fits = wide_product c.wide-in-Global.result c.wide-in-Global-2.result (omega arith) (omega arith) }

pub overflow_add-result : goal.overflow_add-result
overflow_add-result c = omega (arith, c.reach-reach.ensures, reach_most (c.wide-in-Global.result * c.wide-in-Global-2.result) (length c.args.offsets.now), spot_in c.args.globals.now c.args.place _ c.requires c.in-Global.is, c)

pub returns-in-Cell : goal.returns-in-Cell
returns-in-Cell c =
    let a = c.args in
    let t = tables a.grid a.lines a.offsets.now a.items.now a.globals.now a.global_count in
    spotted_cell t a.place _ _ a.first a.second c.in-Cell.is _ _ _ c.wide.ensures c.wide-in-Cell.ensures c.wide-in-Cell-2.ensures _ c.list_of-list.ensures _ _ c.index_in-i.ensures c.index_in-j.ensures

pub returns-in-Global : goal.returns-in-Global
returns-in-Global c =
    let a = c.args in
    let t = tables a.grid a.lines a.offsets.now a.items.now a.globals.now a.global_count in
    spotted_global t a.place _ a.first a.second c.in-Global.is _ _ (reach_here a.grid.rows a.grid.cols (length a.offsets.now) _ _ _ c.wide-in-Global.ensures c.wide-in-Global-2.ensures c.reach-reach.ensures) c.wide-in-Global-3.ensures
