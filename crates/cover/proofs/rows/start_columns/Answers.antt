-- `cover::rows::start_columns` meets its contract. Assumes nothing.
use native.Mathlib.Omega.{arith}
use Rattle.cover.proofs.Climbing.{last_few, starts, across_top, columns_start_left, columns_start_right}
use Rattle.cover.proofs.rows.start_columns.Goals as goal

pub top-requires : goal.top-requires
top-requires c = let p = c.requires in record { before_last = starts p.covered p.at_first; few_rows = last_few p.covered }

pub aside-far-requires : goal.aside-far-requires
aside-far-requires c = across_top c.requires.covered _ c.top.ensures

pub returns-then-e : goal.returns-then-e
returns-then-e c =
    columns_start_left c.requires.covered c.requires.at_first c.top.ensures c.aside-far.ensures.0 (omega arith)
    c.left.ensures c.cell-to.ensures c.cell.ensures

pub returns : goal.returns
returns c =
    columns_start_right c.requires.covered c.requires.at_first c.top.ensures c.aside-far.ensures.0 (omega arith)
    c.cell-2.ensures c.right.ensures c.cell-to-2.ensures
