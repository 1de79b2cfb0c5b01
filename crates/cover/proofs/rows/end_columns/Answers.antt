-- `cover::rows::end_columns` meets its contract. Assumes nothing.
use native.Mathlib.Omega.{arith}
use Rattle.cover.proofs.Climbing.{across_bottom, columns_end_left, columns_end_right}
use Rattle.cover.proofs.rows.end_columns.Goals as goal

pub aside-near-requires : goal.aside-near-requires
aside-near-requires c = across_bottom c.requires _ c.bottom.ensures

pub returns-then-e : goal.returns-then-e
returns-then-e c =
    columns_end_left c.requires c.bottom.ensures c.aside-near.ensures.0 (omega arith)
    c.cell.ensures c.right.ensures c.cell-from.ensures

pub returns : goal.returns
returns c =
    columns_end_right c.requires c.bottom.ensures c.aside-near.ensures.0 (omega arith)
    c.left.ensures c.cell-from-2.ensures c.cell-2.ensures
