-- `cover::rows::columns` meets its contract. Assumes nothing.
use Rattle.cover.proofs.Climbing.{last_few, across_bottom, across_top, columns_rising}
use Rattle.cover.proofs.rows.columns.Goals as goal

pub aside-near-requires : goal.aside-near-requires
aside-near-requires c = across_bottom c.requires.covered _ c.bottom.ensures

pub top-requires : goal.top-requires
top-requires c = let p = c.requires in record { before_last = p.before_last; few_rows = last_few p.covered }

pub aside-far-requires : goal.aside-far-requires
aside-far-requires c = across_top c.requires.covered _ c.top.ensures

pub returns : goal.returns
returns c =
    columns_rising c.requires.covered
    c.bottom.ensures c.aside-near.ensures.0
    c.top.ensures c.aside-far.ensures.0
    c.left.ensures c.cell-first.ensures c.right.ensures c.cell-to.ensures
