-- `listed::lists::list_of` meets its contract. Assumes nothing.
use Rattle.listed.proofs.AsIs.{list_untold, list_falls, list_beyond, list_fits, list_unfit}
use Rattle.listed.proofs.lists.list_of.Goals as goal

pub returns-then-less_one-cell : goal.returns-then-less_one-cell
returns-then-less_one-cell c =
    let a = c.args in
    list_untold a.lines a.offsets.now a.items.now a.cell _ c.less_one.ensures c.if-less_one-cell.true

pub returns-then-to-from : goal.returns-then-to-from
returns-then-to-from c =
    let a = c.args in
    list_falls a.lines a.offsets.now a.items.now a.cell _ _ c.wide-from.ensures c.wide-to.ensures c.if-to-from.true

pub returns-then-items-to : goal.returns-then-items-to
returns-then-items-to c =
    let a = c.args in
    list_beyond a.lines a.offsets.now a.items.now a.cell _ _ c.wide-from.ensures c.wide-to.ensures c.if-to-from.false c.if-items-to.true

pub returns-then-is_increasing : goal.returns-then-is_increasing
returns-then-is_increasing c =
    let a = c.args in
    list_fits a.lines a.offsets.now a.items.now a.cell _ _ c.wide-from.ensures c.wide-to.ensures c.if-to-from.false c.if-items-to.false _ c.is_increasing.ensures c.if-is_increasing.true

pub returns : goal.returns
returns c =
    let a = c.args in
    list_unfit a.lines a.offsets.now a.items.now a.cell _ _ c.wide-from.ensures c.wide-to.ensures c.if-to-from.false c.if-items-to.false _ c.is_increasing.ensures c.if-is_increasing.false
